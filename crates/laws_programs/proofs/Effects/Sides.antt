-- What left sides, items, ranges of loops and whole simple statements do.
use Rattle.std.proofs.Common.{◌≡◌, ℕ, Bool, true, false, List, [], ◌∷◌, Option, Some, None, ℤ, pos, refl}
use Rattle.std.specs.Prelude.{if◌then◌else◌, ◌&&◌}
use Rattle.std.specs.Ordering.{int_eq}
use Rattle.f77_ast.specs.Trees.{ExprTree, ExprTrees}
use Rattle.f77_ast.specs.Trees as tree
use Rattle.f77_ast.specs.Faults.{Fault, Arithmetic, Input}
use Rattle.f77_ast.specs.Store.{Content, content, same_tag}
use Rattle.f77_ast.specs.Steps.{Done, Take, Value, ◌>>=◌}
use Rattle.f77_ast.specs.Places.{Meant, Constant, Variable, Function, Places, element_in}
use Rattle.f77_ast.specs.Values.{fault, unit_after, value, values, Target, to, name_target, element_target, target, shown, all_shown}
use Rattle.f77_ast.specs.Writes.{Locks, written, write, assigned, is_value, taken, items_read}
use Rattle.f77_ast.specs.Loops.{Range, range, step_value, range_of}
use Rattle.f77_ast.specs.declared.variable.Variable.{Variable as Named}
use Rattle.f77_ast.specs.Variables.{union}
use Rattle.call_graph.specs.declared.graph.Graph.{Graph}
use Rattle.f77_meaning.specs.Modules.{Known, names}
use Rattle.effects.specs.Names.{own, array, variable_named}
use Rattle.effects.specs.Reads.{reads, with_reads, inner_reads, with_items, with_named}
use Rattle.effects.specs.Statement.{step_reads}
use Rattle.laws_programs.specs.Effects.Trees.{StandsBare, StandsIndexed, IsShaped, AreShaped, OfMaybe}
use Rattle.laws_programs.proofs.Effects.Kept.{kept_reads, kept_items, kept_named}
use Rattle.laws_programs.proofs.Effects.Access.{Reading, Writing, Talking, Allowed}
use Rattle.laws_programs.proofs.Effects.Fine.{Doing, doing_bind}
use Rattle.laws_programs.proofs.Effects.Units.{ScalarsReach, Lets, lets_first, lets_second}
use Rattle.laws_programs.proofs.Effects.Values.{scalar_let, element_let, value_does, values_does}
use Rattle.fx_lists.proofs.Every.{Anything}

-- the unit may be written
abbrev pub MayWrite : Allowed → Target → Type 0
MayWrite A t = A (Writing t.unit)

module _ (ks : List Known) (g : Graph) (k : Known) (at : Places) (scalars : ScalarsReach k at) where
  pub name_target_does : (A : Allowed) (x : List ℕ) (m : Meant) → names k.symbols x ≡ m → StandsBare x k.symbols → Lets ks g k at Writing A (own x k.symbols) → Doing (name_target m at) A (MayWrite A)
  name_target_does A x (Constant c) e bare lets = tt
  name_target_does A x (Variable n) e bare lets = scalar_let ks g k at scalars Writing A x n e bare lets
  name_target_does A x Function e bare lets = tt

  element_target_does : (A : Allowed) (x : List ℕ) (m : Meant) (ns : List ℤ) → names k.symbols x ≡ m → StandsIndexed x k.symbols → Lets ks g k at Writing A (array x k.symbols) → Doing (element_target m at ns) A (MayWrite A)
  element_target_does A x (Constant c) ns e indexed lets = tt
  element_target_does A x (Variable n) ns e indexed lets = go (element_in (at n) ns) refl
    where
      go : (o : Option ℕ) → element_in (at n) ns ≡ o → Doing (unit_after (at n).first o >>= λ u. Done (to u (at n).tag)) A (MayWrite A)
      go None h = tt
      go (Some j) h = element_let ks g k at scalars Writing A x n ns j e indexed h lets
  element_target_does A x Function ns e indexed lets = tt

  -- it reads its subscripts, and what it names may be written
  pub target_does : (e : ExprTree) (A : Allowed) → IsShaped e k.symbols → Lets ks g k at Reading A (inner_reads e k.symbols) → Lets ks g k at Writing A (variable_named e k.symbols) → Doing (target e (names k.symbols) at) A (MayWrite A)
  target_does (tree.int n) A h lets may = tt
  target_does (tree.log b) A h lets may = tt
  target_does (tree.name x) A h lets may = name_target_does A x (names k.symbols x) refl h may
  target_does (tree.element x es) A h lets may =
      doing_bind (values es (names k.symbols) at) (element_target (names k.symbols x) at) A Anything (MayWrite A) (values_does ks g k at scalars es A [] h.1 lets)
      (λ ns o. element_target_does A x (names k.symbols x) ns refl h.0 may)
  target_does (tree.paren e) A h lets may = tt
  target_does (tree.unary o e) A h lets may = tt
  target_does (tree.binary o a b) A h lets may = tt
  target_does (tree.chars x) A h lets may = tt

  -- ---- writes

  written_does : (A : Allowed) (o : Option Fault) (u : ℕ) (c : Content) → A (Writing u) → Doing (written o u c) A Anything
  written_does A None u c h = (h, tt)
  written_does A (Some f) u c h = tt

  pub write_does : (A : Allowed) (locked : Locks) (u : ℕ) (c : Content) → A (Writing u) → Doing (write locked u c) A Anything
  write_does A locked u c h = written_does A (locked u) u c h

  pub assigned_does : (a b : ExprTree) (A : Allowed) (locked : Locks) → IsShaped a k.symbols → IsShaped b k.symbols → Lets ks g k at Reading A (union (reads b k.symbols) (inner_reads a k.symbols)) → Lets ks g k at Writing A (variable_named a k.symbols) →
      Doing (assigned a b (names k.symbols) at locked) A Anything
  assigned_does a b A locked ha hb lets may =
      doing_bind (value b (names k.symbols) at) (λ c. target a (names k.symbols) at >>= λ t. write locked t.unit (content t.tag c.number)) A Anything Anything
      (value_does ks g k at scalars b A hb (lets_first ks g k at Reading A (reads b k.symbols) (inner_reads a k.symbols) lets)) (λ c z.
      doing_bind (target a (names k.symbols) at) (λ t. write locked t.unit (content t.tag c.number)) A (MayWrite A) Anything
      (target_does a A ha (lets_second ks g k at Reading A (reads b k.symbols) (inner_reads a k.symbols) lets) may) (λ t w.
      write_does A locked t.unit (content t.tag c.number) w))

  -- ---- READ

  taken_does : (A : Allowed) (locked : Locks) (t : Target) (o : Option Content) → MayWrite A t → Doing (taken locked t o) A Anything
  taken_does A locked t None w = tt
  taken_does A locked t (Some c) w = go (same_tag t.tag c.tag && is_value t.tag c.number)
    where
      go : (b : Bool) → Doing (if b then write locked t.unit c else fault Input) A Anything
      go true = write_does A locked t.unit c w
      go false = tt

  pub items_do : (es : ExprTrees) (A : Allowed) (locked : Locks) (vs ws : List Named) → AreShaped es k.symbols → A Talking → Lets ks g k at Reading A (with_items es k.symbols vs) → Lets ks g k at Writing A (with_named es k.symbols ws) →
      Doing (items_read es (names k.symbols) at locked) A Anything
  items_do tree.no_exprs A locked vs ws h talk lets may = tt
  items_do (tree.more_exprs e es) A locked vs ws h talk lets may =
      let here : Lets ks g k at Reading A (union vs (inner_reads e k.symbols)) = λ v u s m. lets v u (kept_items k.symbols v es (union vs (inner_reads e k.symbols)) s) m in
      let there : Lets ks g k at Writing A (union ws (variable_named e k.symbols)) = λ v u s m. may v u (kept_named k.symbols v es (union ws (variable_named e k.symbols)) s) m in
      let rest = items_do es A locked (union vs (inner_reads e k.symbols)) (union ws (variable_named e k.symbols)) h.1 talk lets may in
      doing_bind (target e (names k.symbols) at) (λ t. Take (taken locked t) >>= λ o. items_read es (names k.symbols) at locked) A (MayWrite A) Anything
      (target_does e A h.0 (lets_second ks g k at Reading A vs (inner_reads e k.symbols) here) (lets_second ks g k at Writing A ws (variable_named e k.symbols) there)) (λ t w.
      doing_bind (Take (taken locked t)) (λ o. items_read es (names k.symbols) at locked) A Anything Anything (talk, λ o. taken_does A locked t o w) (λ o z. rest))

  -- ---- PRINT

  shown_value : (e : ExprTree) (A : Allowed) → IsShaped e k.symbols → Lets ks g k at Reading A (reads e k.symbols) → Doing (value e (names k.symbols) at >>= λ c. Done (Value c)) A Anything
  shown_value e A h lets = doing_bind (value e (names k.symbols) at) (λ c. Done (Value c)) A Anything Anything (value_does ks g k at scalars e A h lets) (λ c z. tt)

  shown_does : (e : ExprTree) (A : Allowed) → IsShaped e k.symbols → Lets ks g k at Reading A (reads e k.symbols) → Doing (shown e (names k.symbols) at) A Anything
  shown_does (tree.chars x) A h lets = tt
  shown_does (tree.int n) A h lets = shown_value (tree.int n) A h lets
  shown_does (tree.log b) A h lets = shown_value (tree.log b) A h lets
  shown_does (tree.name x) A h lets = shown_value (tree.name x) A h lets
  shown_does (tree.element x es) A h lets = shown_value (tree.element x es) A h lets
  shown_does (tree.paren e) A h lets = shown_value (tree.paren e) A h lets
  shown_does (tree.unary o e) A h lets = shown_value (tree.unary o e) A h lets
  shown_does (tree.binary o a b) A h lets = shown_value (tree.binary o a b) A h lets

  pub all_shown_do : (es : ExprTrees) (A : Allowed) (vs : List Named) → AreShaped es k.symbols → Lets ks g k at Reading A (with_reads es k.symbols vs) → Doing (all_shown es (names k.symbols) at) A Anything
  all_shown_do tree.no_exprs A vs h lets = tt
  all_shown_do (tree.more_exprs e es) A vs h lets =
      let here : Lets ks g k at Reading A (union vs (reads e k.symbols)) = λ v u s m. lets v u (kept_reads k.symbols v es (union vs (reads e k.symbols)) s) m in
      let rest = all_shown_do es A (union vs (reads e k.symbols)) h.1 lets in
      doing_bind (shown e (names k.symbols) at) (λ x. all_shown es (names k.symbols) at >>= λ xs. Done (x ∷ xs)) A Anything Anything
      (shown_does e A h.0 (lets_second ks g k at Reading A vs (reads e k.symbols) here)) (λ x z.
      doing_bind (all_shown es (names k.symbols) at) (λ xs. Done (x ∷ xs)) A Anything Anything rest (λ xs y. tt))

  -- ---- DO

  step_does : (A : Allowed) (o : Option ExprTree) → OfMaybe o k.symbols → Lets ks g k at Reading A (step_reads o k.symbols) → Doing (step_value o (names k.symbols) at) A Anything
  step_does A None h lets = tt
  step_does A (Some e) h lets = value_does ks g k at scalars e A h lets

  range_does : (A : Allowed) (a b c : ℤ) → Doing (range a b c) A Anything
  range_does A a b c = go (int_eq c (pos 0))
    where
      go : (z : Bool) → Doing {B = Range} (if z then fault Arithmetic else Done (record { from = a; last = b; step = c })) A Anything
      go true = tt
      go false = tt

  pub range_of_does : (a b : ExprTree) (o : Option ExprTree) (A : Allowed) → IsShaped a k.symbols → IsShaped b k.symbols → OfMaybe o k.symbols →
      Lets ks g k at Reading A (union (union (reads a k.symbols) (reads b k.symbols)) (step_reads o k.symbols)) → Doing (range_of a b o (names k.symbols) at) A Anything
  range_of_does a b o A ha hb ho lets =
      let two = lets_first ks g k at Reading A (union (reads a k.symbols) (reads b k.symbols)) (step_reads o k.symbols) lets in
      let third = lets_second ks g k at Reading A (union (reads a k.symbols) (reads b k.symbols)) (step_reads o k.symbols) lets in
      let w = names k.symbols in
      doing_bind (value a w at) (λ x. value b w at >>= λ y. step_value o w at >>= λ z. range x.number y.number z.number) A Anything Anything
      (value_does ks g k at scalars a A ha (lets_first ks g k at Reading A (reads a k.symbols) (reads b k.symbols) two)) (λ x i.
      doing_bind (value b w at) (λ y. step_value o w at >>= λ z. range x.number y.number z.number) A Anything Anything
      (value_does ks g k at scalars b A hb (lets_second ks g k at Reading A (reads a k.symbols) (reads b k.symbols) two)) (λ y j.
      doing_bind (step_value o w at) (λ z. range x.number y.number z.number) A Anything Anything (step_does A o ho third) (λ z l. range_does A x.number y.number z.number)))
