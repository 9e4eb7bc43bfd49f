-- What making leads to.
use Rattle.std.proofs.Common.{◌≡◌, ℕ, List, [], ◌++◌, None, sym, ap, ◌∙◌, subst, append-nil}
use Rattle.session_texts.specs.pipsmake_rules.declared.kind.Kind.{Kind}
use Rattle.session_texts.specs.pipsmake_rules.declared.key.Key.{Key}
use Rattle.session_texts.specs.pipsmake_meaning.Texts.{ModuleText}
use Rattle.call_graph.specs.CallsIn.{Each}
use Rattle.session_texts.specs.pipsmake_meaning.MemoCells.{MemoCells, kept_of}
use Rattle.session_texts.specs.pipsmake_meaning.Making.{AllStay, BringsAll}
use Rattle.laws_database.specs.Laws.{CanMake, walk_in, MakesAsDefined, MakingMayStop}
use Rattle.laws_database.specs.Stands.{Valuation}
use Rattle.laws_database.specs.Unverified.{RestsOn, RestsStill, IsWhole, value_with, RestingStays}
use Rattle.result_store.specs.Rows.{memo_cells_of}
use Rattle.pipsmake_db.specs.declared.db.Db.{Db}
use Rattle.pipsmake_db.specs.declared.make.Brought as code
use Rattle.pipsmake_db.specs.Bring.{BringsSome, Brought}
use Rattle.pipsmake_db.specs.Calls.{Stays, Loses, Rests, RestsMaking, Makes, MakesLinked, key}
use Rattle.pipsmake_db.specs.Fresh.{keys_put}
use Rattle.pipsmake_db.specs.Refusals.{owner_refusal, links_refusal}
use Rattle.pipsmake_db.specs.State.{State, texts_of, memo_cells_in, IsIn}
use Rattle.pipsmake_db.proofs.AskedLaws.{can_make}
use Rattle.pipsmake_db.proofs.TextLaws.{stands_same}

-- ---- what stays

pub stays : (old new : Db) → new.linked ≡ old.linked → new.store ≡ old.store → new.fresh ≡ old.fresh → Stays old new
stays old new l s f = record { texts = l; kept = λ item x. ap (λ rows. memo_cells_of rows item x) s; fresh = f }

-- nothing was made
pub loses_nothing : (old new : Db) → new.linked ≡ old.linked → AllStay (memo_cells_in old) (memo_cells_in new) → new.fresh ≡ old.fresh → Loses old new
loses_nothing old new l k f = record {
  texts = l;
  fresh = f;
  stands = λ s i. (
    [],
    record {
      texts = l ∙ i.texts;
      stands = stands_same (memo_cells_in old) (memo_cells_in new) k s.texts s.made i.stands;
      fresh = f ∙ i.fresh;
    },
  );
}

pub loses_same : (old new : Db) → new.linked ≡ old.linked → new.store ≡ old.store → new.fresh ≡ old.fresh → Loses old new
loses_same old new l s f = loses_nothing old new l (λ item x. ap (λ rows. memo_cells_of rows item x) s) f

-- ---- what was made

module _ (may_stop : MakingMayStop) (old new : Db) (k : Kind) (x : List ℕ) (owned : owner_refusal (texts_of old) k x ≡ None) (links : links_refusal (texts_of old) k ≡ None) (texts : new.linked ≡ old.linked) where
  can : CanMake (texts_of old) k x
  can = can_make (texts_of old) k x owned links

  -- the first of a walk, from a state
  pub stopped : (s : State) → IsIn old s → (before after now : List Key) → walk_in (texts_of old) (key k x) ≡ before ++ after → BringsAll (memo_cells_in old) (texts_of old) before now (memo_cells_in new) → MakesAsDefined s.texts s.made before now (memo_cells_in new)
  stopped s i before after now parts b =
      may_stop (memo_cells_in old) (memo_cells_in new) s.texts s.made (key k x) before after now
      (subst (λ ts. CanMake ts k x) i.texts can) i.stands
      (subst (λ ts. walk_in ts (key k x) ≡ before ++ after) i.texts parts)
      (subst (λ ts. BringsAll (memo_cells_in old) ts before now (memo_cells_in new)) i.texts b)

  pub loses : new.fresh ≡ old.fresh → BringsSome (memo_cells_in old) (texts_of old) (walk_in (texts_of old) (key k x)) (memo_cells_in new) → Loses old new
  loses fresh b = record {
    texts = texts;
    fresh = fresh;
    stands = λ s i. (
      b.now,
      record {
        texts = texts ∙ i.texts;
        stands = (stopped s i b.before b.after b.now b.are b.brings).stands;
        fresh = fresh ∙ i.fresh;
      },
    );
  }

  whole : walk_in (texts_of old) (key k x) ≡ walk_in (texts_of old) (key k x) ++ []
  whole = sym (append-nil (walk_in (texts_of old) (key k x)))

  pub leads : (now : List Key) → BringsAll (memo_cells_in old) (texts_of old) (walk_in (texts_of old) (key k x)) now (memo_cells_in new) → (s : State) → IsIn old s → MakesAsDefined s.texts s.made (walk_in s.texts (key k x)) now (memo_cells_in new)
  leads now b s i = subst (λ ts. MakesAsDefined s.texts s.made (walk_in ts (key k x)) now (memo_cells_in new)) i.texts (stopped s i (walk_in (texts_of old) (key k x)) [] now whole b)

  -- the texts stay, and so does what is rested on
  rests_making : (stored : Valuation) → Rests old stored → (now : List Key) → RestsStill (texts_of old) stored (walk_in (texts_of old) (key k x)) now (memo_cells_in new) → RestsMaking new stored (walk_in (texts_of old) (key k x)) now
  rests_making stored r now s =
      let walked : List Key = walk_in (texts_of old) (key k x) in
      record {
        rests = record { whole = subst (λ ts. IsWhole ts stored) (sym texts) r.whole; kept = subst (λ ts. RestsOn (memo_cells_in new) ts (value_with ts stored)) (sym texts) s.rests };
        none_stored = s.none_stored;
        shown = subst (λ ts. Each (λ (n : Key). kept_of (memo_cells_in new) n.kind n.name ≡ value_with ts stored n.kind n.name) walked) (sym texts) s.shown;
      }

  pub makes : (rests : RestingStays) (now : List Key) → BringsAll (memo_cells_in old) (texts_of old) (walk_in (texts_of old) (key k x)) now (memo_cells_in new) → new.fresh ≡ keys_put old.fresh (walk_in (texts_of old) (key k x)) → Makes old new (key k x) now
  makes rests now b fresh = record {
    texts = texts;
    fresh = fresh;
    leads = λ s i. (let m = leads now b s i in record {
      made = m.are_made;
      next = record {
        texts = texts ∙ i.texts;
        stands = m.stands;
        fresh = fresh ∙ ap (λ f. keys_put f (walk_in (texts_of old) (key k x))) i.fresh ∙ ap (λ ts. keys_put s.fresh (walk_in ts (key k x))) i.texts;
      };
    });
    rests = λ stored r. rests_making stored r now (rests (memo_cells_in old) (memo_cells_in new) (texts_of old) stored (key k x) (walk_in (texts_of old) (key k x)) [] now can r.whole r.kept whole b);
  }

-- ---- over the links that were taken out

module _ (may_stop : MakingMayStop) (old mid after new : Db) (k : Kind) (x : List ℕ) (owned : owner_refusal (texts_of old) k x ≡ None) (links : links_refusal (texts_of old) k ≡ None)
    (same : mid.linked ≡ old.linked) (store : mid.store ≡ old.store) (fresh : mid.fresh ≡ old.fresh) (back : new.linked ≡ mid.linked) (kept : new.store ≡ after.store) where
  in_place : (P : List ModuleText → MemoCells → MemoCells → Type 0) → P (texts_of mid) (memo_cells_in mid) (memo_cells_in after) → P (texts_of old) (memo_cells_in old) (memo_cells_in new)
  in_place P p =
      subst (λ ts. P ts (memo_cells_in old) (memo_cells_in new)) same
      (subst (λ rows. P (texts_of mid) (memo_cells_of rows) (memo_cells_in new)) store (subst (λ rows. P (texts_of mid) (memo_cells_in mid) (memo_cells_of rows)) (sym kept) p))

  pub loses_linked : new.fresh ≡ mid.fresh → BringsSome (memo_cells_in mid) (texts_of mid) (walk_in (texts_of mid) (key k x)) (memo_cells_in after) → Loses old new
  loses_linked f b = loses may_stop old new k x owned links (back ∙ same) (f ∙ fresh) (in_place (λ ts sh z. BringsSome sh ts (walk_in ts (key k x)) z) b)

  pub brings_linked : (now : List Key) → BringsAll (memo_cells_in mid) (texts_of mid) (walk_in (texts_of mid) (key k x)) now (memo_cells_in after) → BringsAll (memo_cells_in old) (texts_of old) (walk_in (texts_of old) (key k x)) now (memo_cells_in new)
  brings_linked now b = in_place (λ ts sh z. BringsAll sh ts (walk_in ts (key k x)) now z) b

  pub fresh_linked : (f : List Key) → f ≡ keys_put mid.fresh (walk_in (texts_of mid) (key k x)) → f ≡ keys_put old.fresh (walk_in (texts_of old) (key k x))
  fresh_linked f e = e ∙ ap (λ g. keys_put g (walk_in (texts_of mid) (key k x))) fresh ∙ ap (λ ts. keys_put old.fresh (walk_in ts (key k x))) same

  pub makes_linked : (rests : RestingStays) (b : code.Brought) → Brought mid (key k x) after b → new.fresh ≡ b.fresh → MakesLinked old new (key k x) b.made
  makes_linked rests b h f = record { links = links; makes = makes may_stop old new k x owned links (back ∙ same) rests b.made (brings_linked b.made h.brings) (f ∙ fresh_linked b.fresh h.fresh) }
