-- CALLs are fine where their effects are allowed, if what they call is fine where its summary is.
use Rattle.std.proofs.Common.{◌≡◌, inl, inr, ℕ, ◌<◌, true, List, [], ◌∷◌, length, Some, sym, subst, arith}
use Rattle.std.specs.Prelude.{slice_get}
use Rattle.f77_ast.specs.Trees.{ExprTrees}
use Rattle.f77_ast.specs.Trees as tree
use Rattle.f77_ast.specs.Places.{Place, Places}
use Rattle.f77_ast.specs.Writes.{Locks}
use Rattle.f77_ast.specs.Plans.{◌▹◌}
use Rattle.f77_ast.specs.Calls.{Meaning, Actual, actuals, places_of, own_units, lock_own, after_call}
use Rattle.f77_ast.specs.declared.variable.Variable.{Variable}
use Rattle.call_graph.specs.declared.graph.Graph.{Graph}
use Rattle.call_graph.specs.Actuals.{actuals_of, all_fit}
use Rattle.f77_meaning.specs.Areas.{is_own_unit, own, unit_at}
use Rattle.f77_meaning.specs.Modules.{Known, names}
use Rattle.f77_meaning.specs.Linked.{numbering, room_for, routine}
use Rattle.f77_meaning.specs.Occurrences.{Occurrence}
use Rattle.f77_meaning.proofs.UnitLaws.{temporaries_are_recognisable}
use Rattle.effects.specs.Statement.{proper_of}
use Rattle.effects.specs.Callee.{in_caller, all_in_caller, summary_effect, call_effect}
use Rattle.effects.specs.List.{Callees}
use Rattle.laws_programs.specs.Effects.Tables.{is_plain, DummiesLead}
use Rattle.laws_programs.specs.Effects.Laws.{summary_for}
use Rattle.laws_programs.proofs.Effects.Named.{Stands}
use Rattle.laws_programs.proofs.Effects.Access.{Access, Reading, Writing, Allowed, Passing}
use Rattle.laws_programs.proofs.Effects.Fine.{Fine, fine_first, fine_then}
use Rattle.laws_programs.proofs.Effects.Orders.{after_call_fine}
use Rattle.laws_programs.proofs.Effects.Units.{ScalarsReach, AreAt, Lets, LetsAll, lets_one, lets_other, OwnAreFree}
use Rattle.laws_programs.proofs.Effects.Offers.{AllOffer, actuals_do}
use Rattle.laws_programs.proofs.Effects.Dummies.{offered, scalars_offered}
use Rattle.laws_programs.proofs.Effects.Callers.{BlocksReach, SavedFound, IsCall, IsOfCaller, translated, in_all}
use Rattle.laws_programs.proofs.Effects.Statements.{CallsFine}
use Rattle.f77_meaning.proofs.ModuleLaws.{has_room as one_room}
use Rattle.call_graph.specs.Visible.{is_visible_to_callers}

-- what callers know of a module goes out of it
abbrev pub AllGoOut : Known → List Variable → Type 0
AllGoOut l vs = (v : Variable) → Stands v vs → is_visible_to_callers l.symbols v ≡ true

-- what a call of a module needs: that its scalars get units, and that its effects are allowed
pub record Accepts (ks : List Known) (g : Graph) (tables : List ℕ → Callees) (l : Known) (ps : List Place) (A : Allowed) : Type 0 where
  pub scalars : ScalarsReach l (offered ks g l ps)
  pub lets : LetsAll ks g l (offered ks g l ps) A (summary_for tables l).value

-- a call of what all modules of the name accept is fine
abbrev pub MeaningsFine : List Known → Graph → (List ℕ → Callees) → Passing → (Occurrence → Type 0) → (List ℕ → Meaning) → Type 1
MeaningsFine ks g tables L C callee = (x : List ℕ) (ps : List Place) (locked : Locks) (A : Allowed) → OwnAreFree ks g A →
    ((j : ℕ) (l : Known) → slice_get ks j ≡ Some l → l.read.name ≡ x → Accepts ks g tables l ps A) → Fine (callee x ps locked) L C A

-- what is known of a CALL: it fits each module of the name, whose summary is that of the table
pub record FitsModule (k : Known) (es : ExprTrees) (c : Callees) (tables : List ℕ → Callees) (l : Known) : Type 0 where
  pub count : length (actuals_of es k.symbols) ≡ length l.read.dummies
  pub types : all_fit (actuals_of es k.symbols) l.symbols ≡ true
  pub lead : DummiesLead (length l.read.dummies) 1 l.symbols
  pub plain : is_plain l.read.name ≡ true
  pub summary : c l.read.name ≡ Some (summary_for tables l)
  pub reads_out : AllGoOut l (summary_for tables l).value.reads
  pub writes_out : AllGoOut l (summary_for tables l).value.writes

abbrev pub FitsAll : List Known → (List ℕ → Callees) → Known → List ℕ → ExprTrees → Type 0
FitsAll ks tables k x es = (j : ℕ) (l : Known) → slice_get ks j ≡ Some l → l.read.name ≡ x → FitsModule k es (tables k.read.name) tables l

-- ---- one module

module _ (ks : List Known) (g : Graph) (tables : List ℕ → Callees) (k : Known) (at : Places) (are_at : AreAt ks g k at) (reach : BlocksReach ks g) (saved : SavedFound ks g) where
  lets_callee : (es : ExprTrees) (xs : List Actual) (l : Known) (access : ℕ → Access) (A : Allowed) (vs : List Variable) → IsCall ks g k at es xs l → ((u : ℕ) → is_own_unit (numbering ks g) u ≡ true → A (access u)) → AllGoOut l vs →
      Lets ks g k at access A (all_in_caller vs l.read.name es l.symbols k.symbols []) → Lets ks g l (offered ks g l (places_of xs)) access A vs
  lets_callee es xs l access A vs call free out lets v u s h = go (translated ks g k at es xs l call are_at reach saved v u (out v s) h)
    where
      go : IsOfCaller ks g k at es xs l call are_at reach saved (in_caller v l.read.name es l.symbols k.symbols) u → A (access u)
      go (inl e) = free u e
      go (inr r) = lets r.0 u (in_all l.read.name es l.symbols k.symbols v r.0 vs [] s r.1) r.2

  accepts : (es : ExprTrees) (xs : List Actual) (j : ℕ) (l : Known) (A : Allowed) → slice_get ks j ≡ Some l → FitsModule k es (tables k.read.name) tables l → AllOffer ks g k at es xs → OwnAreFree ks g A →
      LetsAll ks g k at A (call_effect (tables k.read.name l.read.name) l.read.name es k.symbols) → Accepts ks g tables l (places_of xs) A
  accepts es xs j l A is fits offers free lets =
      let call : IsCall ks g k at es xs l = record { count = fits.count; types = fits.types; lead = fits.lead; offers = offers; index = j; is_module = is; plain = fits.plain } in
      let known : LetsAll ks g k at A (summary_effect (summary_for tables l) l.read.name es k.symbols) = subst (λ o. LetsAll ks g k at A (call_effect o l.read.name es k.symbols)) fits.summary lets in
      record {
        scalars = scalars_offered ks g k at es xs l fits.count fits.types fits.lead offers;
        lets = record {
          to_read = lets_callee es xs l Reading A (summary_for tables l).value.reads call free.to_read fits.reads_out known.to_read;
          to_write = lets_callee es xs l Writing A (summary_for tables l).value.writes call free.to_write fits.writes_out known.to_write;
          to_talk = known.to_talk;
          to_stop = known.to_stop;
        };
      }

-- ---- units of expressions

pub own_told : (ks : List Known) (g : Graph) (x : List ℕ) (n j : ℕ) → is_own_unit (numbering ks g) (unit_at (numbering ks g) (own x n j) 0) ≡ true
own_told ks g x n j = temporaries_are_recognisable (numbering ks g) (own x n j) 0 (one_room ks)

-- ---- CALLs

pub calls_fine : (ks : List Known) (g : Graph) (tables : List ℕ → Callees) (k : Known) (callee : List ℕ → Meaning) (L : Passing) (C : Occurrence → Type 0) (at : Places) →
    AreAt ks g k at → BlocksReach ks g → SavedFound ks g → MeaningsFine ks g tables L C callee → CallsFine ks g k callee (tables k.read.name) (FitsAll ks tables k) L C at
calls_fine ks g tables k callee L C at are_at reach saved meanings x es n locked A shaped fits free lets =
    let one = lets_one ks g k at A (proper_of (tree.call x es) k.symbols) (call_effect (tables k.read.name x) x es k.symbols) lets in
    let other = lets_other ks g k at A (proper_of (tree.call x es) k.symbols) (call_effect (tables k.read.name x) x es k.symbols) lets in
    fine_first L C (actuals es 0 (names k.symbols) at ((routine ks g k).own_unit n)) (λ xs. callee x (places_of xs) (lock_own locked (own_units xs)) ▹ after_call (own_units xs)) A (AllOffer ks g k at es)
    (actuals_do ks g k at are_at.scalars es 0 A ((routine ks g k).own_unit n) [] (own_told ks g k.read.name n) shaped one.to_read) (λ xs offers.
    fine_then L C (callee x (places_of xs) (lock_own locked (own_units xs))) (after_call (own_units xs)) A
    (meanings x (places_of xs) (lock_own locked (own_units xs)) A free
    (λ j l is named. accepts ks g tables k at are_at reach saved es xs j l A is (fits j l is named) offers free
    (subst (λ y. LetsAll ks g k at A (call_effect (tables k.read.name y) y es k.symbols)) (sym named) other)))
    (after_call_fine L C A (own_units xs)))
