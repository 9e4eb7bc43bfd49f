-- What is written of a module has the labels and the number of executable statements of what was read of it, and no RETURN where none may be.
use Rattle.std.proofs.Common.{◌≡◌, ℕ, ◌+◌, ◌≤◌, Bool, true, false, List, [], ◌∷◌, ◌++◌, refl, sym, ap, ◌∙◌, subst, append-nil, arith}
use Rattle.std.specs.Prelude.{Option, Some, None, ◌&&◌}
use Rattle.std.proofs.lemmas.Bool.Decides.{nat_tests}
use Rattle.f77_statements.specs.Phrases.{PhraseTree, program, subroutine, function, specification, simple, logical_if, block_if, else_if, else_part, end_if, do_head, while_head, end_do, end_module}
use Rattle.f77_structure.specs.declared.mark.Mark.{Mark}
use Rattle.f77_structure.specs.declared.order.Order.{Order}
use Rattle.f77_structure.specs.Marks.{statements_in, label_in, returns_in, is_return}
use Rattle.f77_structure.specs.Order.{is_main_after, is_out_of_order, has_label, keep_label, passes_most, counted, check_next, all_ordered, nothing_ordered}
use Rattle.f77_parser.specs.Roles.{role_of, action_of}
use Rattle.f77_parser.specs.Statements.{StatementTree, mark_of, marks_of}
use Rattle.f77_parser.specs.declared.progress.Heading.{Heading}
use Rattle.f77_parser.specs.SoFar.{SoFar}
use Rattle.f77_parser.specs.Building.{add_statement, add_all, no_statements}
use Rattle.roundtrip_programs.specs.Statements.Formed.{Each}
use Rattle.roundtrip_programs.specs.ModuleTexts.Cards.{Card, while_numbers}
use Rattle.roundtrip_programs.specs.ModuleTexts.ModuleLaws.{IsStatement}
use Rattle.roundtrip_programs.proofs.ModuleTexts.Calm.{true-false}
use Rattle.roundtrip_programs.proofs.ModuleTexts.Each.{Each-append}
use Rattle.roundtrip_programs.proofs.ModuleTexts.Tally.{listed, labels_of, count_of, IsQuiet, IsBehind, labels-append, count-append, AreNew, one-new}
use Rattle.roundtrip_programs.proofs.ModuleTexts.Bare.{numbers-append}
use Rattle.roundtrip_programs.proofs.ModuleTexts.Openings.{AllMay, phrase-has}
use Rattle.roundtrip_programs.proofs.ModuleTexts.Standing.{executed, AreStarted}
use Rattle.roundtrip_programs.proofs.ModuleTexts.Adding.{heading_by, AddsBy, phrase-adds}
use Rattle.roundtrip_programs.proofs.Written.Beginning.{found-before as order-found}
use Rattle.fx_lists.proofs.Refused.{none_refused}

-- ---- a statement in which no fault is found

-- the label of an executable statement is new
abbrev IsUnused : Option ℕ → Order → Type 0
IsUnused None o = Unit {0}
IsUnused (Some l) o = has_label l o.labels ≡ false

pub record Passes (label : Option ℕ) (m : Mark) (o : Order) (next : Order) : Type 0 where
  pub before : o.found ≡ None
  pub few : passes_most o.count (o.count + statements_in m) ≡ false
  pub order : is_out_of_order o.begun o.main o.count m.role ≡ false
  pub unused : IsUnused label o
  pub labels : next.labels ≡ o.labels ++ listed label
  pub count : next.count ≡ o.count + statements_in m
  pub main : next.main ≡ is_main_after o.begun o.main m.role
  pub begun : next.begun ≡ true

passes-by : (label : Option ℕ) (m : Mark) (o : Order) → (counted m (keep_label m.line label o)).found ≡ None → Passes label m o (counted m (keep_label m.line label o))
passes-by None m o h =
    let x = none_refused _ _ _ _ h in let y = none_refused _ _ _ _ x.1 in let z = none_refused _ _ _ _ y.1 in
    record { before = z.1; few = x.0; order = y.0; unused = tt; labels = sym (append-nil o.labels); count = refl; main = refl; begun = refl }
passes-by (Some l) m o h =
    let x = none_refused _ _ _ _ h in let y = none_refused _ _ _ _ x.1 in let z = none_refused _ _ _ _ y.1 in let u = none_refused _ _ _ _ z.1 in
    record { before = u.1; few = x.0; order = y.0; unused = u.0; labels = refl; count = refl; main = refl; begun = refl }

passes : (m : Mark) (o : Order) → (check_next m o).found ≡ None → Passes (label_in m) m o (check_next m o)
unfolding check_next
passes m o h = passes-by (label_in m) m o h

-- ---- main programs

record Mains (phrase : PhraseTree) (begun main : Bool) (h : Heading) : Type 0 where
  after : is_main_after begun main (role_of phrase) ≡ (heading_by phrase h).main
  earlier : (heading_by phrase h).main ≡ true → h.main ≡ true
  quiet : (heading_by phrase h).main ≡ true → returns_in (role_of phrase) ≡ false

no-return : (main r : Bool) (h : Heading) → main ≡ h.main → (main && r) ≡ false → h.main ≡ true → r ≡ false
no-return main r h e o x = sym (ap (λ b. b && r) (e ∙ x)) ∙ o

stays-main : (phrase : PhraseTree) (begun main : Bool) (count : ℕ) (h : Heading) → is_out_of_order begun main count (role_of phrase) ≡ false → main ≡ h.main
    → (begun ≡ false → main ≡ true) → Mains phrase begun main h
stays-main (program n) begun main count h o e u = record { after = u o; earlier = λ x. sym e ∙ u o; quiet = λ x. refl }
stays-main (subroutine n ds) begun main count h o e u =
    record { after = ap (λ b. b && main) o; earlier = λ x. absurd (true-false (sym x)); quiet = λ x. refl }
stays-main (function form n ds) begun main count h o e u =
    record { after = ap (λ b. b && main) o; earlier = λ x. absurd (true-false (sym x)); quiet = λ x. refl }
stays-main (specification d) begun main count h o e u = record { after = e; earlier = λ x. x; quiet = λ x. refl }
stays-main (simple w) begun main count h o e u = record { after = e; earlier = λ x. x; quiet = no-return main (is_return (action_of w)) h e o }
stays-main (logical_if t w) begun main count h o e u = record { after = e; earlier = λ x. x; quiet = no-return main (is_return (action_of w)) h e o }
stays-main (block_if t) begun main count h o e u = record { after = e; earlier = λ x. x; quiet = λ x. refl }
stays-main (else_if t) begun main count h o e u = record { after = e; earlier = λ x. x; quiet = λ x. refl }
stays-main else_part begun main count h o e u = record { after = e; earlier = λ x. x; quiet = λ x. refl }
stays-main end_if begun main count h o e u = record { after = e; earlier = λ x. x; quiet = λ x. refl }
stays-main (do_head d) begun main count h o e u = record { after = e; earlier = λ x. x; quiet = λ x. refl }
stays-main (while_head l t) begun main count h o e u = record { after = e; earlier = λ x. x; quiet = λ x. refl }
stays-main end_do begun main count h o e u = record { after = e; earlier = λ x. x; quiet = λ x. refl }
stays-main end_module begun main count h o e u = record { after = e; earlier = λ x. x; quiet = λ x. refl }

module _ (tells : ℕ → Bool) where
  -- ---- statements

  -- what is written so far has the labels and the number of what was read
  pub record Orders (p : SoFar) (o : Order) : Type 0 where
    pub labels : labels_of (executed tells p) ≡ o.labels
    pub count : count_of (executed tells p) ≡ o.count
    pub quiet : p.heading.main ≡ true → Each IsQuiet (executed tells p)
    pub behind : Each IsBehind (executed tells p)
    pub main : o.main ≡ p.heading.main
    pub unbegun : o.begun ≡ false → o.main ≡ true
    pub started : AreStarted tells p.around
    pub new : AreNew [] o.labels
    pub few : o.count ≤ 4096
    pub same : p.count ≡ o.count
    pub whiles : while_numbers (executed tells p) ≡ p.whiles

  still-few : (count new : ℕ) → passes_most count new ≡ false → count ≤ 4096 → new ≤ 4096
  still-few count new h c = grind (arith, nat_tests)

  still-new : (label : Option ℕ) (o : Order) → AreNew [] o.labels → IsUnused label o → AreNew [] (o.labels ++ listed label)
  still-new None o a u = let P : List ℕ → Type 0 = λ x. AreNew [] x in subst P (sym (append-nil o.labels)) a
  still-new (Some l) o a u = one-new [] o.labels l a u

  one-ordered : (s : StatementTree) (p : SoFar) (o : Order) → AddsBy tells s.phrase s.label p (add_statement s p) → Orders p o → (check_next (mark_of s) o).found ≡ None
      → Orders (add_statement s p) (check_next (mark_of s) o)
  one-ordered s p o a g h =
      let q = add_statement s p in let b = phrase-has s.first s.label s.comments s.phrase p in
      let m = mark_of s in let x = passes m o h in
      let t = stays-main s.phrase o.begun o.main o.count p.heading x.order g.main g.unbegun in
      let heading : q.heading.main ≡ (heading_by s.phrase p.heading).main = ap (λ y. y.main) a.heading in
      let Quiet : List Card → Type 0 = λ cs. Each IsQuiet cs in
      let Behind : List Card → Type 0 = λ cs. Each IsBehind cs in
      let New : List ℕ → Type 0 = λ y. AreNew [] y in
      let Few : ℕ → Type 0 = λ y. y ≤ 4096 in
      record {
        labels = ap labels_of a.same ∙ labels-append (executed tells p) a.cards ∙ ap (λ y. y ++ labels_of a.cards) g.labels ∙ ap (λ y. o.labels ++ y) a.labels ∙ sym x.labels;
        count = ap count_of a.same ∙ count-append (executed tells p) a.cards ∙ ap (λ y. y + count_of a.cards) g.count ∙ ap (λ y. o.count + y) a.count ∙ sym x.count;
        quiet = λ e. subst Quiet (sym a.same) (Each-append IsQuiet (executed tells p) a.cards (g.quiet (t.earlier (sym heading ∙ e))) (a.quiet (t.quiet (sym heading ∙ e))));
        behind = subst Behind (sym a.same) (Each-append IsBehind (executed tells p) a.cards g.behind a.behind);
        main = x.main ∙ t.after ∙ sym heading;
        unbegun = λ e. absurd (true-false (sym x.begun ∙ e));
        started = a.started;
        new = subst New (sym x.labels) (still-new (label_in m) o g.new x.unused);
        few = subst Few (sym x.count) (still-few o.count (o.count + statements_in m) x.few g.few);
        same = b.count ∙ ap (λ y. y + statements_in m) g.same ∙ sym x.count;
        whiles = ap while_numbers a.same ∙ numbers-append (executed tells p) a.cards ∙ ap (λ y. y ++ while_numbers a.cards) g.whiles ∙ ap (λ y. p.whiles ++ y) a.whiles ∙ sym b.whiles;
      }

  pub all-ordered : (ss : List StatementTree) (p : SoFar) (o : Order) → Each IsStatement ss → AllMay tells ss p
      → Orders p o → (all_ordered (marks_of ss) o).found ≡ None → Orders (add_all ss p) (all_ordered (marks_of ss) o)
  all-ordered [] p o i m r h = r
  all-ordered (s ∷ ss) p o i m r h =
      let a = phrase-adds tells s.first s.label s.comments s.phrase p i.first m.may m.told r.started in
      let then = check_next (mark_of s) o in
      all-ordered ss (add_statement s p) then i.others m.others (one-ordered s p o a r (order-found (marks_of ss) then h)) h

  pub nothing-ordered : Orders no_statements nothing_ordered
  nothing-ordered =
      let few : 0 ≤ 4096 = omega arith in
      record { labels = refl; count = refl; quiet = λ x. tt; behind = tt; main = refl; unbegun = λ x. refl; started = tt; new = tt; few = few; same = refl; whiles = refl }
