-- A module is fine where what callers know of it is allowed.
use Rattle.std.proofs.Common.{◌≡◌, ℕ, zero, suc, ◌+◌, ◌-◌, List, [], ◌∷◌, length, Option, Some, refl, sym, subst, arith}
use Rattle.std.specs.Prelude.{slice_get}
use Rattle.f77_ast.specs.Trees.{ExprTrees, StmtTrees}
use Rattle.f77_ast.specs.Trees as tree
use Rattle.f77_ast.specs.Places.{Place, Places}
use Rattle.f77_ast.specs.Writes.{Locks}
use Rattle.f77_ast.specs.Steps.{Spot}
use Rattle.f77_ast.specs.Plans.{Plan, Ends, Within}
use Rattle.f77_ast.specs.Lists.{Part, list_plan}
use Rattle.f77_ast.specs.Calls.{Meaning, forget_all, arrays_bound, lock_doubly}
use Rattle.f77_ast.specs.Statements.{spot, execution, parts, body_plan}
use Rattle.f77_ast.specs.Programs.{scope, body_of, called}
use Rattle.f77_ast.specs.Symbols.{SymbolTree}
use Rattle.f77_ast.specs.Shared.{symbol_at}
use Rattle.call_graph.specs.declared.graph.Graph.{Graph}
use Rattle.f77_ast.specs.Effects.{no_effect}
use Rattle.f77_meaning.specs.Modules.{Known, names, dummies_from}
use Rattle.f77_meaning.specs.Linked.{routine}
use Rattle.f77_meaning.specs.Occurrences.{Occurrence}
use Rattle.effects.specs.List.{Callees, at_list}
use Rattle.effects.specs.Modules.{with_symbols}
use Rattle.laws_programs.specs.Effects.Tables.{DummiesLead, AllBounds}
use Rattle.laws_programs.specs.Effects.Trees.{ListFits}
use Rattle.laws_programs.specs.Effects.Claims.{IsOfModule}
use Rattle.laws_programs.specs.Effects.Laws.{summary_for}
use Rattle.laws_programs.proofs.Effects.Access.{Access, Allowed, Under, into_under}
use Rattle.laws_programs.proofs.Effects.Fine.{Always, Fine, Doing, fine_first}
use Rattle.laws_programs.proofs.Effects.Orders.{list_fine, forget_fine, after_call_fine}
use Rattle.laws_programs.proofs.Effects.Opens.{Wherever, Opens, opens_first, opens_forget}
use Rattle.laws_programs.proofs.Effects.Units.{AreAt, LetsAll, Allows, allows_all, OwnAreFree, own_free, own_free_more}
use Rattle.laws_programs.proofs.Effects.Plain.{PlainEffect}
use Rattle.laws_programs.proofs.Effects.PlainStatements.{PlainCallee, plain_stmt}
use Rattle.laws_programs.proofs.Effects.Statements.{parts_fine}
use Rattle.laws_programs.proofs.Effects.Callers.{BlocksReach, SavedFound}
use Rattle.laws_programs.proofs.Effects.Calls.{Accepts, MeaningsFine, FitsAll, calls_fine}
use Rattle.laws_programs.proofs.Effects.Passing.{passing}
use Rattle.laws_programs.proofs.Effects.Binding.{dummies_lead}
use Rattle.laws_programs.proofs.Effects.Bounds.{LetsScalars}
use Rattle.laws_programs.proofs.Effects.Arrays.{AfterAll, arrays_do}
use Rattle.laws_programs.proofs.Effects.Entered.{first_at, Keeps, keeps_first, keeps_at, entered}
use Rattle.laws_programs.proofs.Effects.Inside.{whole, lets_below, bounds_at_places, bounds_offered, offered_below}
use Rattle.laws_programs.proofs.Effects.Held.{statement_claims, entry_claim}
use Rattle.f77_ast.proofs.StorageLaws.{at_number}

-- what is known of a CALL: it fits what it calls, whose summary names variables by names that tell them apart
abbrev pub Asked : List Known → (List ℕ → Callees) → Known → List ℕ → ExprTrees → Type 0
Asked ks tables k x es = FitsAll ks tables k x es × PlainCallee k.symbols x (tables k.read.name x)

-- what is known of a module of the program
pub record IsSound (ks : List Known) (tables : List ℕ → Callees) (l : Known) : Type 0 where
  pub index : ℕ
  pub is_module : slice_get ks index ≡ Some l
  pub lead : DummiesLead (length l.read.dummies) 1 l.symbols
  pub bounds : AllBounds l.symbols l.symbols
  pub body : ListFits l.read.body l.symbols (Asked ks tables l)
  pub summary : PlainEffect (summary_for tables l).value

one_up : (ss : List SymbolTree) (i : ℕ) (s : SymbolTree) → slice_get ss i ≡ Some s → symbol_at ss (1 + i) ≡ Some s
one_up ss i s e = let z : i ≡ (1 + i) - 1 = omega arith in at_number ss (1 + i) s (omega arith) (subst (λ j. slice_get ss j ≡ Some s) z e)

module _ (ks : List Known) (g : Graph) (tables : List ℕ → Callees) (reach : BlocksReach ks g) (saved : SavedFound ks g) (turns : ℕ) (callee : List ℕ → Meaning) where
  abbrev claim : Occurrence → Type 0
  claim x = IsOfModule ks g tables x

  module _ (meanings : MeaningsFine ks g tables (passing ks g) claim callee) (l : Known) (sound : IsSound ks tables l) where
    -- the statements, at places where the bounds have been read
    statements_fine : (at : Places) → AreAt ks g l at → (locked : Locks) (A : Allowed) → OwnAreFree ks g A → LetsAll ks g l at A (whole ks g tables sound.index l sound.is_module) → Fine (body_plan l.read.body (scope (routine ks g l) turns callee) at locked) (passing ks g) claim A
    statements_fine at are_at locked A free lets =
        list_fine (passing ks g) claim A turns (parts l.read.body (scope (routine ks g l) turns callee) at locked)
        (parts_fine ks g l turns callee (tables l.read.name) (Asked ks tables l) (passing ks g) claim at (at_list l.read.body (tables l.read.name) l.symbols) are_at.scalars
        (statement_claims ks g tables sound.index l sound.is_module at)
        (λ x es n lk B shaped asked own allow. calls_fine ks g tables l callee (passing ks g) claim at are_at reach saved meanings x es n lk B shaped asked.0 own allow)
        (plain_stmt l.symbols (tables l.read.name) (Asked ks tables l) (λ x es asked. asked.1))
        l.read.body locked A free sound.body (λ a h. h) no_effect lets)

    module _ (ps : List Place) (locked : Locks) where
      abbrev base : Places
      base = first_at ks g l ps

      abbrev then_statements : Places → Plan
      then_statements at = body_plan l.read.body (scope (routine ks g l) turns callee) at (lock_doubly locked (dummies_from 1 l.symbols) at (routine ks g l).common)

      bounds_do : (A : Allowed) → LetsScalars l.symbols base A (with_symbols l.symbols l.symbols []) → Doing (arrays_bound (dummies_from 1 l.symbols) ps (names l.symbols) base) A (AfterAll (length l.read.dummies) 1 l.symbols ps base)
      bounds_do A lets =
          subst (λ ds. Doing (arrays_bound ds ps (names l.symbols) base) A (AfterAll (length l.read.dummies) 1 l.symbols ps base)) (sym (dummies_lead (length l.read.dummies) 1 l.symbols sound.lead))
          (arrays_do l.symbols base A sound.bounds lets (length l.read.dummies) 1 l.symbols ps base (one_up l.symbols) (λ n s e b. refl))

      pub module_fine : (A : Allowed) → OwnAreFree ks g A → Accepts ks g tables l ps A → Fine (body_of (routine ks g l) turns callee ps base locked) (passing ks g) claim (Under (passing ks g) (spot l.read.name 0) A)
      module_fine A free accepts =
          let B : Allowed = Under (passing ks g) (spot l.read.name 0) A in
          fine_first (passing ks g) claim (arrays_bound (dummies_from 1 l.symbols) ps (names l.symbols) base) then_statements B (AfterAll (length l.read.dummies) 1 l.symbols ps base)
          (bounds_do B (bounds_offered ks g tables sound.index l sound.is_module ps sound.lead A accepts)) (λ at after.
          let e = entered ks g l ps sound.lead at after in
          statements_fine at (keeps_at ks g l ps sound.lead at e.keeps) (lock_doubly locked (dummies_from 1 l.symbols) at (routine ks g l).common) B (own_free_more ks g A B (into_under (passing ks g) (spot l.read.name 0) A) free)
          (offered_below ks g tables sound.index l sound.is_module ps sound.lead at e A accepts))

      -- ---- the entry

      abbrev at_places : Places → Access → Type 0
      at_places q = Under (passing ks g) (spot l.read.name 0) (Allows ks g l q (summary_for tables l).value)

      no_statement : (m : ℕ) → Opens (list_plan m []) (passing ks g) claim (Keeps ks g l ps) at_places base
      no_statement zero = (keeps_first ks g l ps sound.lead, tt)
      no_statement (suc m) = (keeps_first ks g l ps sound.lead, tt)

      some_statement : (m : ℕ) (at : Places) → Keeps ks g l ps at → (p : Spot) (label : Option ℕ) (t : Plan) (qs : List Part) → Fine (list_plan m (record { label = label; does = Within p at t (λ f. Ends f) } ∷ qs)) (passing ks g) claim (at_places at) →
          Opens (list_plan m (record { label = label; does = Within p at t (λ f. Ends f) } ∷ qs)) (passing ks g) claim (Keeps ks g l ps) at_places base
      some_statement zero at keeps p label t qs h = (keeps, h)
      some_statement (suc m) at keeps p label t qs h = (keeps, h)

      statements_open : (body : StmtTrees) (at : Places) (lk : Locks) → Keeps ks g l ps at → Fine (body_plan body (scope (routine ks g l) turns callee) at lk) (passing ks g) claim (at_places at) → Opens (body_plan body (scope (routine ks g l) turns callee) at lk) (passing ks g) claim (Keeps ks g l ps) at_places base
      statements_open tree.no_stmts at lk keeps h = no_statement turns
      statements_open (tree.more_stmts (tree.stmt n label w) rest) at lk keeps h = some_statement turns at keeps (spot l.read.name n) label (execution w n (scope (routine ks g l) turns callee) at lk) (parts rest (scope (routine ks g l) turns callee) at lk) h

      module_opens : Opens (body_of (routine ks g l) turns callee ps base locked) (passing ks g) claim (Keeps ks g l ps) at_places base
      module_opens =
          opens_first (passing ks g) claim (Keeps ks g l ps) at_places base (arrays_bound (dummies_from 1 l.symbols) ps (names l.symbols) base) then_statements (AfterAll (length l.read.dummies) 1 l.symbols ps base) (keeps_first ks g l ps sound.lead)
          (bounds_do (Wherever (Keeps ks g l ps) at_places) (λ n s stands e v f b q keeps.
          bounds_at_places ks g tables sound.index l sound.is_module ps sound.lead q keeps (Allows ks g l q (summary_for tables l).value) (allows_all ks g l q (summary_for tables l).value) n s stands e v f b)) (λ at after.
          let e = entered ks g l ps sound.lead at after in
          let A : Allowed = Allows ks g l at (summary_for tables l).value in
          statements_open l.read.body at (lock_doubly locked (dummies_from 1 l.symbols) at (routine ks g l).common) e.keeps
          (statements_fine at (keeps_at ks g l ps sound.lead at e.keeps) (lock_doubly locked (dummies_from 1 l.symbols) at (routine ks g l).common) (at_places at)
          (own_free_more ks g A (at_places at) (into_under (passing ks g) (spot l.read.name 0) A) (own_free ks g l at (summary_for tables l).value))
          (lets_below ks g tables sound.index l sound.is_module at e.keeps.others A (allows_all ks g l at (summary_for tables l).value))))

      pub module_claim : (us : List ℕ) → Always claim (spot l.read.name 0) base (forget_all us (body_of (routine ks g l) turns callee ps base locked))
      module_claim us =
          entry_claim ks g tables sound.index l sound.is_module (Keeps ks g l ps) base (forget_all us (body_of (routine ks g l) turns callee ps base locked)) sound.summary
          (opens_forget (passing ks g) claim (Keeps ks g l ps) at_places base us (body_of (routine ks g l) turns callee ps base locked) module_opens)

      -- a call of it
      pub called_fine : (A : Allowed) → OwnAreFree ks g A → Accepts ks g tables l ps A → Fine (called (routine ks g l) turns callee ps locked) (passing ks g) claim A
      called_fine A free accepts = (
        module_claim (routine ks g l).locals,
        forget_fine (passing ks g) claim (Under (passing ks g) (spot l.read.name 0) A) (routine ks g l).locals (body_of (routine ks g l) turns callee ps base locked) (module_fine A free accepts),
        after_call_fine (passing ks g) claim A (routine ks g l).locals,
      )
