use Rattle.std.proofs.Common.{◌≡◌, ◌∙◌, ◌^◌, take, length, sym, ap, subst, arith, refl}
use Rattle.std.proofs.lemmas.List.{with_items_is, length-take-le}
use Rattle.affine_systems.specs.Given.{ItemsSmall}
use Rattle.affine_systems.specs.Items.{next_made}
use Rattle.affine_systems.specs.Tidy.{faced_all}
use Rattle.work_area.specs.Slots.{items_in, HaveRoom, KeepsRoom}
use Rattle.work_area.specs.Columns.{InColumns}
use Rattle.work_area.specs.Tables.{MadeBelow}
use Rattle.work_area.proofs.TableSteps.{short_slots, ready_turned, front_is}
use Rattle.work_area.proofs.tidying.face.Goals as goal

pub next_made-made-requires : goal.next_made-made-requires
next_made-made-requires c = subst (MadeBelow (2 ^ 127)) (sym (front_is c.args.tables.now c.as_slice-rows.result.now c.as_slice-rows.ensures.value)) c.requires.below

pub face_all-requires-clause-each : goal.face_all-requires-clause-each
face_all-requires-clause-each c = subst ItemsSmall (sym (front_is c.args.tables.now c.as_slice-rows.result.now c.as_slice-rows.ensures.value)) c.requires.small

pub face_all-requires-clause-fit : goal.face_all-requires-clause-fit
face_all-requires-clause-fit c =
    let t = c.args.tables.now in
    let w = c.requires.sound.width in
    let e = front_is t c.as_slice-rows.result.now c.as_slice-rows.ensures.value in
    record {
      width = w;
      short = short_slots w (take t.len c.as_slice-rows.result.now) (subst (InColumns w) (sym e) c.requires.sound.held) (subst ItemsSmall (sym e) c.requires.small);
      wide = subst (HaveRoom w) (sym c.as_mut_slice.ensures.value) c.requires.sound.ready.others;
    }

pub returns-clause-items : goal.returns-clause-items
returns-clause-items c =
    let t = c.args.tables.now in
    let front = take t.len c.as_slice-rows.result.now in
    let out = c.face_all.new.out in
    let e = front_is t c.as_slice-rows.result.now c.as_slice-rows.ensures.value in
    let v = with_items_is t.others out (c.face_all.auto.out ∙ c.as_mut_slice.ensures.len) in
    let n : length front ≡ t.len = length-take-le t.len c.as_slice-rows.result.now (omega (arith, c.requires.sound.ready.within, c.requires.sound.ready.places, ap length c.as_slice-rows.ensures.value)) in
    ap (λ x. take t.len (items_in x.items)) c.swap.ensures.x_after
    ∙ (ap (λ ss. take t.len (items_in ss)) v
    ∙ (ap (λ m. take m (items_in out)) (sym n)
    ∙ (c.face_all.ensures.items ∙ (ap (λ m. faced_all m (items_in front) (items_in front)) c.next_made-made.ensures.defined ∙ ap (λ is. faced_all (next_made is) is is) e))))

pub returns-clause-ready : goal.returns-clause-ready
returns-clause-ready c =
    let t = c.args.tables.now in
    let out = c.face_all.new.out in
    let v = with_items_is t.others out (c.face_all.auto.out ∙ c.as_mut_slice.ensures.len) in
    record {
      kept = λ n r. ready_turned n t _ out (ap (λ x. x.items) c.swap.ensures.x_after ∙ v) (c.face_all.auto.out ∙ ap length c.as_mut_slice.ensures.value)
          (subst (λ ss. KeepsRoom ss out) c.as_mut_slice.ensures.value c.face_all.ensures.room) r.within c.swap.ensures.y_after refl refl r;
    }
