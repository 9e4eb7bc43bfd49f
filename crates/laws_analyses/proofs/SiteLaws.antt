-- CALLs of modules that are read: what is known of one.
use Rattle.std.proofs.Common.{◌≡◌, ℕ, zero, suc, ◌+◌, true, false, not, List, [], ◌∷◌, map, Some, None, refl, sym, ap, ◌∙◌, subst, arith}
use Rattle.std.specs.Prelude.{slice_get}
use Rattle.std.proofs.lemmas.Bool.{and_from}
use Rattle.affine_systems.specs.declared.row.System.{System}
use Rattle.f77_ast.specs.declared.decl.Scalar.TheVariants as scalar
use Rattle.f77_ast.specs.DeclTrees.{ParsedTree}
use Rattle.f77_ast.specs.Trees.{ExprTree, ExprTrees}
use Rattle.f77_ast.specs.Trees as tree
use Rattle.f77_ast.specs.Store as tag
use Rattle.f77_ast.specs.Steps.{Done, ◌>>=◌}
use Rattle.f77_ast.specs.Places.{Places, Variable, scalar_place}
use Rattle.f77_ast.specs.Values.{value, name_value}
use Rattle.f77_ast.proofs.StorageLaws.{to_number}
use Rattle.f77_ast.specs.Calls.{Dummy, passed_by_reference, stored, actual, name_actual}
use Rattle.f77_ast.specs.declared.symbol.Place.TheVariants as place
use Rattle.f77_ast.specs.Symbols.{BoundTree, SymbolTree}
use Rattle.f77_ast.specs.Shared.{symbol_at}
use Rattle.tracked_cells.specs.Standing.{is_int, has_bounds, is_int_scalar}
use Rattle.call_graph.specs.declared.graph.Graph.{Graph}
use Rattle.f77_meaning.specs.Modules.{known_of, names, bound_of, dummies_from}
use Rattle.affine_forms.specs.Scalars.{is_cell}
use Rattle.preconditions.specs.call_translation.Actuals.{actual_at}
use Rattle.preconditions.specs.call_translation.Sites.{HoldingSite}
use Rattle.preconditions.specs.transformers.Given.{Callees}
use Rattle.preconditions.specs.Entry.{sites_entry}
use Rattle.preconditions.specs.transformer_algebra.Laws.{In}
use Rattle.laws_programs.specs.Storage.Programs.{IsLinked, IsModule, known}
use Rattle.laws_programs.proofs.Storage.CellLaws.{cells_are_scalars}
use Rattle.laws_programs.proofs.Storage.OwnUnitLaws.{own_units_differ}
use Rattle.laws_programs.specs.Storage.Calls.{AreLaidOut, IsNamed, IsMisread, Takes, takes_scalar, takes_array, takes_element, takes_value, misread, Args, AllRead}
use Rattle.laws_programs.specs.Storage.Below.{HasCall}
use Rattle.laws_programs.proofs.Storage.BelowLaws.{common_is_shared}
use Rattle.laws_analyses.specs.Statements.Laws.{is_scalar}
use Rattle.laws_programs.proofs.Storage.OwnerLaws.{expression_below, called_owns_below, called_owns_no_expression}
use Rattle.laws_analyses.specs.Calls.Parts.{summary}
use Rattle.laws_analyses.specs.Calls.Sites.{Site, have_subscripts}
use Rattle.laws_analyses.specs.Parts.{scope_in, blocks_in, part_of}
use Rattle.laws_analyses.proofs.DummyLaws.{none_listed, listed}
use Rattle.laws_analyses.proofs.NameLaws.{bounds_scalar}
use Rattle.laws_analyses.proofs.CellFacts as cells
use Rattle.laws_analyses.proofs.Saneness.{int_dummies}
use Rattle.laws_programs.proofs.Storage.KeepLaws.{the_dummy}

-- ---- which actual goes to which dummy

-- the actual of a dummy of the list, whose first symbol has the number n
pub record ArgAt (ss : List SymbolTree) (es : ExprTrees) (n : ℕ) (ds : List SymbolTree) (i : ℕ) (d : Dummy) : Type 0 where
  pub actual : ExprTree
  pub is_actual : actual_at es i ≡ Some actual
  pub not_misread : IsMisread ss actual → ⊥
  pub symbol : SymbolTree
  pub is_symbol : slice_get ds i ≡ Some symbol
  pub dummy_place : (m : ℕ) × (symbol.place ≡ place.Dummy m)
  pub takes : Takes ss actual symbol
  pub is : d ≡ the_dummy (n + i) symbol

pub arg_at : (ss : List SymbolTree) (es : ExprTrees) (m n : ℕ) (ds : List SymbolTree) → Args ss es m ds → AllRead ss es → (i : ℕ) (d : Dummy) → slice_get (dummies_from n ds) i ≡ Some d → ArgAt ss es n ds i d
arg_at ss tree.no_exprs m n ds args read i d e = let z : None ≡ Some d = sym (ap (λ xs. slice_get xs i) (none_listed n ds args)) ∙ e in cc
arg_at ss (tree.more_exprs a es) m n [] args read i d e = absurd args
arg_at ss (tree.more_exprs a es) m n (s ∷ ds) args read zero d e =
    let first : Some (the_dummy n s) ≡ Some d = sym (ap (λ xs. slice_get xs 0) (listed n s ds m args.0)) ∙ e in
    let same : the_dummy n s ≡ d = cc in
    let none : n ≡ n + zero = omega arith in
    record { actual = a; is_actual = refl; not_misread = read.0; symbol = s; is_symbol = refl; dummy_place = (m, args.0); takes = args.1; is = sym same ∙ ap (λ j. the_dummy j s) none }
arg_at ss (tree.more_exprs a es) m n (s ∷ ds) args read (suc i) d e =
    let r = arg_at ss es (suc m) (suc n) ds args.2 read.1 i d (sym (ap (λ xs. slice_get xs (suc i)) (listed n s ds m args.0)) ∙ e) in
    let next : suc n + i ≡ n + suc i = omega arith in
    record { actual = r.actual; is_actual = r.is_actual; not_misread = r.not_misread; symbol = r.symbol; is_symbol = r.is_symbol; dummy_place = r.dummy_place; takes = r.takes; is = r.is ∙ ap (λ j. the_dummy j r.symbol) next }

-- ---- variables that are actuals

pub no_bounds_back : (bs : List BoundTree) → map bound_of bs ≡ [] → bs ≡ []
no_bounds_back [] e = refl
no_bounds_back (b ∷ bs) e = cc

has_none : (bs : List BoundTree) → bs ≡ [] → has_bounds bs ≡ true → ⊥
has_none bs e h = let z : true ≡ false = sym h ∙ ap has_bounds e in cc

-- a variable without bounds, or what a scalar takes, goes to a scalar of its type
pub record Passed (ss : List SymbolTree) (v : ℕ) (d : SymbolTree) : Type 0 where
  pub symbol : SymbolTree
  pub is_symbol : symbol_at ss v ≡ Some symbol
  pub flat : symbol.bounds ≡ []
  pub solid : d.bounds ≡ []
  pub type : symbol.scalar ≡ d.scalar

module _ (ss : List SymbolTree) (e : ExprTree) (d : SymbolTree) (y : List ℕ) (v : ℕ) (named : e ≡ tree.name y) (meant : names ss y ≡ Variable v) (read : IsMisread ss e → ⊥) where
  no_value : ((at : Places) (u : ℕ) → actual e (names ss) at u ≡ (value e (names ss) at >>= stored u)) → ⊥
  no_value same =
      let at : Places = λ n. scalar_place 0 tag.Int in
      let one : name_actual (names ss y) at 0 ≡ (name_value (names ss y) at >>= stored 0) = subst (λ z. actual z (names ss) at 0 ≡ (value z (names ss) at >>= stored 0)) named (same at 0) in
      let two : Done (passed_by_reference (at v)) ≡ (name_value (Variable v) at >>= stored 0) = sym (ap (λ m. name_actual m at 0) meant) ∙ one ∙ ap (λ m. name_value m at >>= stored 0) meant in
      cc

  one_number : (x : List ℕ) (w : ℕ) (s : SymbolTree) → e ≡ tree.name x → IsNamed ss x w s → symbol_at ss v ≡ Some s
  one_number x w s f n =
      let same_name : x ≡ y = (let z : tree.name x ≡ tree.name y = sym f ∙ named in cc) in
      let same : w ≡ v = (let z : Variable w ≡ Variable v = sym n.meant ∙ ap (names ss) same_name ∙ meant in cc) in
      ap (symbol_at ss) (sym same) ∙ n.is_symbol

  pub to_scalar : Takes ss e d → d.bounds ≡ [] → Passed ss v d
  to_scalar (takes_scalar x w s f n sb db t) b = record { symbol = s; is_symbol = one_number x w s f n; flat = sb; solid = db; type = t }
  to_scalar (takes_array x w s f n sb db t) b = absurd (has_none d.bounds b db)
  to_scalar (takes_element x es w s f n sb t) b = let z : tree.element x es ≡ tree.name y = sym f ∙ named in cc
  to_scalar (takes_value db same) b = absurd (no_value same)
  to_scalar (misread m) b = absurd (read m)

  pub from_scalar : Takes ss e d → (s : SymbolTree) → symbol_at ss v ≡ Some s → s.bounds ≡ [] → Passed ss v d
  from_scalar (takes_scalar x w t f n sb db q) s is b = record { symbol = t; is_symbol = one_number x w t f n; flat = sb; solid = db; type = q }
  from_scalar (takes_array x w t f n sb db q) s is b =
      let same : t ≡ s = (let z : Some t ≡ Some s = sym (one_number x w t f n) ∙ is in cc) in
      absurd (has_none t.bounds (ap (λ z. z.bounds) same ∙ b) sb)
  from_scalar (takes_element x es w t f n sb q) s is b = let z : tree.element x es ≡ tree.name y = sym f ∙ named in cc
  from_scalar (takes_value db same) s is b = absurd (no_value same)
  from_scalar (misread m) s is b = absurd (read m)

-- ---- a CALL

module _ (ps : List ParsedTree) (sss : List (List SymbolTree)) (g : Graph) (l : IsLinked ps sss g) (laid : AreLaidOut ps sss) (i : ℕ) (p : ParsedTree) (ss : List SymbolTree) (m : IsModule ps sss i p ss) (j : ℕ) (q : ParsedTree) (tt' : List SymbolTree) (mq : IsModule ps sss j q tt') (has : HasCall p ss q.module_read.name) (es : ExprTrees) (args : Args ss es 1 tt') (read : AllRead ss es) where
  at_dummy : (k : ℕ) (d : Dummy) → slice_get (dummies_from 1 tt') k ≡ Some d → ArgAt ss es 1 tt' k d
  at_dummy k d e = arg_at ss es 1 1 tt' args read k d e

  its : (k : ℕ) (d : Dummy) (e : slice_get (dummies_from 1 tt') k ≡ Some d) (y : List ℕ) → actual_at es k ≡ Some (tree.name y) → (at_dummy k d e).actual ≡ tree.name y
  its k d e y h = let z : Some (at_dummy k d e).actual ≡ Some (tree.name y) = sym (at_dummy k d e).is_actual ∙ h in cc

  scalars : (k : ℕ) (d : Dummy) (y : List ℕ) → slice_get (dummies_from 1 tt') k ≡ Some d → d.bounds ≡ [] → actual_at es k ≡ Some (tree.name y) → (v : ℕ) → names ss y ≡ Variable v → is_scalar ss y ≡ true
  scalars k d y e b h v n =
      let a = at_dummy k d e in
      let s = to_scalar ss a.actual a.symbol y v (its k d e y h) n a.not_misread a.takes (no_bounds_back a.symbol.bounds (sym (ap (λ z. z.bounds) a.is) ∙ b)) in
      bounds_scalar ss y v s.symbol n s.is_symbol s.flat

  tracked : (k v : ℕ) (d : Dummy) (y : List ℕ) → slice_get (dummies_from 1 tt') k ≡ Some d → actual_at es k ≡ Some (tree.name y) → names ss y ≡ Variable v → is_cell (scope_in g (known p ss)).tracked v ≡ true → is_cell (scope_in g (known q tt')).tracked d.symbol ≡ true
  tracked k v d y e h n t =
      let a = at_dummy k d e in
      let c = cells.cell_of ps sss g l i p ss m v t in
      let int = cells_are_scalars g p ss v c.0 c.1 in
      let s = from_scalar ss a.actual a.symbol y v (its k d e y h) n a.not_misread a.takes c.0 c.1.is_symbol int.1 in
      let same : s.symbol ≡ c.0 = (let z : Some s.symbol ≡ Some c.0 = sym s.is_symbol ∙ c.1.is_symbol in cc) in
      let type : a.symbol.scalar ≡ scalar.Int = sym s.type ∙ ap (λ z. z.scalar) same ∙ int.0 in
      let whole : is_int_scalar a.symbol ≡ true = and_from (is_int a.symbol.scalar) (not (has_bounds a.symbol.bounds)) (ap is_int type) (ap (λ bs. not (has_bounds bs)) s.solid) in
      let next : 1 + k ≡ suc k = omega arith in
      let number : d.symbol ≡ suc k = ap (λ z. z.symbol) a.is ∙ next in
      ap (is_cell (scope_in g (known q tt')).tracked) number ∙ int_dummies ps sss g l j q tt' mq (laid j q tt' mq) (suc k) a.dummy_place.0 a.symbol (to_number tt' k a.symbol a.is_symbol) whole a.dummy_place.1

  pub call_site : (cs : Callees) (sites : List ℕ → List HoldingSite) (here there P : System) (x : List ℕ) → have_subscripts es ≡ true →
      (let h = part_of (known_of ps sss) g cs here (known p ss) in
      let k = part_of (known_of ps sss) g cs there (known q tt') in
      cs x ≡ Some (record { symbols = k.scope.symbols; value = summary cs k }) → there ≡ sites_entry k.scope (sites x) → In (record { caller = h.scope; actuals = es; value = P }) (sites x) → Site (blocks_in (known_of ps sss) g) cs sites h k x es P)
  call_site cs sites here there P x subscripts made entry site = record {
    actual = λ k d e. ((at_dummy k d e).actual, (at_dummy k d e).is_actual);
    offered = subscripts;
    scalars = scalars;
    cells = tracked;
    commons = λ u h. common_is_shared ps sss g l i p ss m q.module_read.name u has h;
    owned = λ u h. called_owns_below ps sss g l i p ss m q.module_read.name u has h;
    own_below = λ n k. expression_below ps sss g l i p ss m n k;
    own_apart = λ n k. called_owns_no_expression ps sss g l i p ss m q.module_read.name n k has;
    own_each = λ n k o e. (own_units_differ ps sss g l i i p p ss ss m m n k n o e).2;
    summary_known = made;
    entry = entry;
    site = site;
  }
