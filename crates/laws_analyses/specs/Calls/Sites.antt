-- CALLs: what is known of one, where a module is entered, and how a call ends.
use Rattle.std.specs.Prelude.{◌≡◌, ℕ, ◌<◌, Bool, true, false, ◌&&◌, List, [], ◌∷◌, Option, Some, None, slice_get, if◌then◌else◌, bytes_eq}
use Rattle.affine_systems.specs.declared.row.System.{System}
use Rattle.f77_ast.specs.Trees.{ExprTree, ExprTrees}
use Rattle.f77_ast.specs.Trees as tree
use Rattle.f77_ast.specs.Store.{Store}
use Rattle.f77_ast.specs.Places.{Variable, Place}
use Rattle.f77_ast.specs.Writes.{Locks}
use Rattle.f77_ast.specs.Plans.{Flow, Normal, Jump, Returned, Stopped}
use Rattle.f77_ast.specs.Calls.{Dummy, Meaning}
use Rattle.f77_ast.specs.Programs.{no_module}
use Rattle.f77_ast.specs.Executions.{Claim}
use Rattle.affine_forms.specs.Scalars.{is_cell}
use Rattle.affine_forms.specs.Claims.{numbers_of}
use Rattle.preconditions.specs.transformer_algebra.Claims.{HoldsAt, Does}
use Rattle.preconditions.specs.transformer_algebra.Laws.{In}
use Rattle.preconditions.specs.call_translation.Actuals.{actual_at}
use Rattle.preconditions.specs.call_translation.Sites.{HoldingSite}
use Rattle.preconditions.specs.transformers.Given.{Callees}
use Rattle.preconditions.specs.Entry.{sites_entry}
use Rattle.laws_analyses.specs.Statements.Good.{Good}
use Rattle.laws_analyses.specs.Statements.Activation.{is_locked, Still}
use Rattle.laws_analyses.specs.Calls.Scenes.{outside}
use Rattle.laws_analyses.specs.Calls.Parts.{Blocks, Part, summary, nth, in_bound, places_in, scene_in, still_in, Sane}

-- an element has a subscript, as reading makes it
abbrev pub has_subscript : ExprTree → Bool
has_subscript (tree.int n) = true
has_subscript (tree.log b) = true
has_subscript (tree.name x) = true
has_subscript (tree.element x tree.no_exprs) = false
has_subscript (tree.element x (tree.more_exprs e es)) = true
has_subscript (tree.paren e) = true
has_subscript (tree.unary o e) = true
has_subscript (tree.binary o a b) = true
has_subscript (tree.chars x) = true

abbrev pub have_subscripts : ExprTrees → Bool
have_subscripts tree.no_exprs = true
have_subscripts (tree.more_exprs e es) = has_subscript e && have_subscripts es

-- a CALL of the module k by the name x in the module h, where P holds
pub record Site (b : Blocks) (cs : Callees) (sites : List ℕ → List HoldingSite) (h k : Part) (x : List ℕ) (es : ExprTrees) (P : System) : Type 0 where
  -- there is an actual for each dummy; to one without bounds goes no array, and to a tracked one, and to no other, a tracked cell
  pub actual : (i : ℕ) (d : Dummy) → slice_get k.routine.dummies i ≡ Some d → (e : ExprTree) × (actual_at es i ≡ Some e)
  -- an element among the actuals has a subscript, as reading makes it
  pub offered : have_subscripts es ≡ true
  pub scalars : (i : ℕ) (d : Dummy) (y : List ℕ) → slice_get k.routine.dummies i ≡ Some d → d.bounds ≡ [] → actual_at es i ≡ Some (tree.name y) → (v : ℕ) → h.routine.names y ≡ Variable v → h.scalar y ≡ true
  pub cells : (i v : ℕ) (d : Dummy) (y : List ℕ) → slice_get k.routine.dummies i ≡ Some d → actual_at es i ≡ Some (tree.name y) → h.routine.names y ≡ Variable v → is_cell h.scope.tracked v ≡ true → is_cell k.scope.tracked d.symbol ≡ true
  -- what is called reaches no COMMON that the caller does not, and owns only what is below the caller
  pub commons : (u : ℕ) → k.routine.common u ≡ true → h.routine.common u ≡ true
  pub owned : (u : ℕ) → k.owns u ≡ true → h.below u ≡ true
  -- the units of expressions at the CALL are the caller's, and differ
  pub own_below : (n i : ℕ) → h.below (h.routine.own_unit n i) ≡ true
  pub own_apart : (n i : ℕ) → k.owns (h.routine.own_unit n i) ≡ false
  pub own_each : (n i j : ℕ) → h.routine.own_unit n i ≡ h.routine.own_unit n j → i ≡ j
  -- its summary is known, and its entry is made of all its sites, of which this is one
  pub summary_known : cs x ≡ Some (record { symbols = k.scope.symbols; value = summary cs k })
  pub entry : k.entry ≡ sites_entry k.scope (sites x)
  pub site : In (record { caller = h.scope; actuals = es; value = P }) (sites x)

-- the module of a name, among modules each before those that it calls
abbrev pub lookup : List Part → List ℕ → Option Part
lookup [] x = None
lookup (k ∷ ks) x = if bytes_eq x k.routine.name then Some k else lookup ks x

abbrev pub CoversFrom : Blocks → Callees → (List ℕ → List HoldingSite) → Part → List ℕ → ExprTrees → System → Option Part → Type 0
CoversFrom b cs sites h x es P None = Unit {0}
CoversFrom b cs sites h x es P (Some k) = Site b cs sites h k x es P

-- what a CALL owes: a CALL of no module is a fault
abbrev pub Covers : Blocks → Callees → (List ℕ → List HoldingSite) → List Part → Part → List ℕ → ExprTrees → System → Type 0
Covers b cs sites below h x es P = CoversFrom b cs sites h x es P (lookup below x)

-- where a module is entered with these places and locks
pub record Entered (k : Part) (ps : List Place) (locked : Locks) : Type 0 where
  pub locks : (u : ℕ) → is_locked locked u ≡ true → k.owns u ≡ false
  pub places : (u : ℕ) → in_bound k.routine.dummies ps u ≡ true → k.owns u ≡ false
  pub solid : (i : ℕ) (d : Dummy) → slice_get k.routine.dummies i ≡ Some d → d.bounds ≡ [] → 0 < (nth ps i).extent

-- how its call ends
abbrev pub CallEnded : Blocks → Callees → Part → List Place → Locks → Store → Flow → Store → Type 0
CallEnded b cs k ps locked s Normal z = Does (outside k.scope.symbols (scene_in b k ps (places_in k ps))) (summary cs k) (numbers_of s) (numbers_of z) × Still (still_in k ps locked) s z
CallEnded b cs k ps locked s (Jump l) z = ⊥
CallEnded b cs k ps locked s Returned z = ⊥
CallEnded b cs k ps locked s Stopped z = Unit {0}

-- what the callers of a module use
abbrev pub Spec : Claim → Blocks → Callees → Part → Meaning → Type 0
Spec C b cs k meaning = (ps : List Place) (locked : Locks) (z : Store) → Entered k ps locked → HoldsAt (outside k.scope.symbols (scene_in b k ps (places_in k ps))) k.entry (numbers_of z) → Good C (meaning ps locked) z (CallEnded b cs k ps locked z)

-- what is known of the meaning of a name where it is called: that of a module, or of none
abbrev pub CalleeOk : Claim → Blocks → Callees → Option Part → Meaning → Type 0
CalleeOk C b cs None meaning = meaning ≡ no_module
CalleeOk C b cs (Some k) meaning = Sane b k × Spec C b cs k meaning
