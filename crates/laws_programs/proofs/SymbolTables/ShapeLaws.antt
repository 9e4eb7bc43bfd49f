-- Names stand in statements as they may: by the table of symbols.
use Rattle.std.proofs.Common.{◌≡◌, ◌⊎◌, inl, inr, ℕ, zero, suc, ◌+◌, Bool, true, false, List, [], ◌∷◌, length, Option, Some, None, refl, sym, ap, ◌∙◌, subst, arith}
use Rattle.std.specs.Prelude.{if◌then◌else◌, bytes_eq, is_some, ◌||◌, codes}
use Rattle.std.specs.List.{list_any}
use Rattle.f77_ast.specs.Trees.{ExprTrees}
use Rattle.f77_ast.specs.Trees as tree
use Rattle.f77_ast.specs.DeclTrees.{ParsedTree}
use Rattle.f77_ast.specs.Numbers.{Intrinsic, intrinsic_named}
use Rattle.f77_ast.specs.Numbers as numbers
use Rattle.f77_ast.specs.Symbols.{BoundTree, SymbolTree}
use Rattle.f77_names.specs.declared.functions.Function.{Function}
use Rattle.f77_names.specs.declared.functions.Function.TheVariants as function
use Rattle.f77_names.specs.Functions.{function_named, same_function, unless_array, function_of}
use Rattle.f77_names.specs.Entries.{ShapeTree, EntryTree, fresh, find, of_entry, or_this, with_dummy, with_value, has_shape}
use Rattle.f77_names.specs.Tables.{NameTable}
use Rattle.f77_checks.specs.Expressions.{count, dimensions, dimensions_of}
use Rattle.f77_checks.specs.Dimensions.{check_shapes}
use Rattle.storage_layout.specs.Symbols.{valued, checked}
use Rattle.storage_layout.specs.Table.{Layout, bounds_in, symbol_of, symbols_from}
use Rattle.laws_programs.specs.SymbolTables.Shapes.{symbol_named, has_any, bounds_of, is_given, StandsBare, StandsIndexed, ShapedList, BodiesAreShaped}
use Rattle.laws_programs.proofs.SymbolTables.KeptNames.{Said, with_said, Typed, Shaped, Shared, Parameter, Saved, Initial, Nothing}
use Rattle.laws_programs.proofs.SymbolTables.Answers.{Answered, lines_in, names_in, found_in, layout_in, answered_by, found_none}
use Rattle.laws_programs.proofs.SymbolTables.FoundNames.{AllFound, names_found}
use Rattle.laws_programs.proofs.SymbolTables.JudgedShapes.{Indexed, stmts_shaped}

-- ---- shapes have bounds

abbrev good : Option ShapeTree → Type 0
good None = Unit {0}
good (Some s) = has_any s.bounds

abbrev Good : EntryTree → Type 0
Good e = good e.shape

good_first : (o : Option ShapeTree) (line : ℕ) (b : BoundTree) (bs : List BoundTree) → good o → good (or_this o (record { line = line; bounds = b ∷ bs }))
good_first None line b bs h = tt
good_first (Some s) line b bs h = h

said_good : (w : Said) (e : EntryTree) → Good e → Good (with_said w e)
said_good (Typed s) e h = h
said_good (Shaped line b bs) e h = good_first e.shape line b bs h
said_good (Shared line) e h = h
said_good Parameter e h = h
said_good Saved e h = h
said_good Initial e h = h
said_good Nothing e h = h

all_good : (p : ParsedTree) → AllFound Good (names_in p).entries
all_good p = names_found Good (λ x line. tt) (λ n e h. h) said_good (λ c e h. h) p

-- ---- symbols and entries

abbrev shape_of : Option EntryTree → Option ShapeTree
shape_of None = None
shape_of (Some e) = e.shape

named-from : (l : Layout) (n : ℕ) (es : List EntryTree) (x : List ℕ) → bounds_of (symbol_named (symbols_from l n es) x) ≡ bounds_in (shape_of (find x es))
unfolding find
named-from l n [] x = refl
named-from l n (e ∷ es) x = go (bytes_eq x e.name) (named-from l (n + 1) es x)
  where
    go : (b : Bool) → bounds_of (symbol_named (symbols_from l (n + 1) es) x) ≡ bounds_in (shape_of (find x es)) → bounds_of (if b then Some (symbol_of l n e) else symbol_named (symbols_from l (n + 1) es) x) ≡ bounds_in (shape_of (if b then Some e else find x es))
    go true h = refl
    go false h = h

-- ---- names

bare_bounds : (o : Option EntryTree) → of_entry false (λ e. is_some e.shape) o ≡ false → bounds_in (shape_of o) ≡ []
bare_bounds None h = refl
bare_bounds (Some e) h = go e.shape h
  where
    go : (s : Option ShapeTree) → is_some s ≡ false → bounds_in s ≡ []
    go None k = refl
    go (Some s) k = cc

no_dimensions : (o : Option EntryTree) → of_entry None (λ e. dimensions e.shape) o ≡ None → bounds_in (shape_of o) ≡ []
no_dimensions None h = refl
no_dimensions (Some e) h = go e.shape h
  where
    go : (s : Option ShapeTree) → dimensions s ≡ None → bounds_in s ≡ []
    go None k = refl
    go (Some s) k = cc

given_count : (bs : List BoundTree) (es : ExprTrees) → has_any bs → length bs ≡ count es → is_given es
given_count [] es h e = absurd h
given_count (b ∷ bs) tree.no_exprs h e = let z : suc (length bs) ≡ 0 = e in absurd (grind arith)
given_count (b ∷ bs) (tree.more_exprs x es) h e = tt

some_dimensions : (o : Option EntryTree) (es : ExprTrees) → ((e : EntryTree) → o ≡ Some e → Good e) → of_entry None (λ e. dimensions e.shape) o ≡ Some (count es) → has_any (bounds_in (shape_of o)) × is_given es
some_dimensions None es all h = cc
some_dimensions (Some e) es all h = go e.shape (all e refl) h
  where
    go : (s : Option ShapeTree) → good s → dimensions s ≡ Some (count es) → has_any (bounds_in s) × is_given es
    go None g k = cc
    go (Some s) g k = let same : length s.bounds ≡ count es = cc in (g, given_count s.bounds es g same)

-- ---- functions

unless_some : (arrays : List Function) (o : Option Function) (f : Function) → unless_array arrays o ≡ Some f → is_some o ≡ true
unless_some arrays None f h = cc
unless_some arrays (Some d) f h = refl

-- the names of functions are the same in both lists
same_names : (a b c d e f g : Bool) →
    is_some (if a then Some function.Abs else if b then Some function.Iabs else if c then Some function.Mod else if d then Some function.Max else if e then Some function.Max0 else if f then Some function.Min else if g then Some function.Min0 else None) ≡ true →
    is_some (if a || b then Some numbers.Abs else if c then Some numbers.Mod else if d || e then Some numbers.Max else if f || g then Some numbers.Min else None) ≡ true
same_names true b c d e f g h = refl
same_names false true c d e f g h = refl
same_names false false true d e f g h = refl
same_names false false false true e f g h = refl
same_names false false false false true f g h = refl
same_names false false false false false true g h = refl
same_names false false false false false false true h = refl
same_names false false false false false false false h = h

is_intrinsic : (arrays : List Function) (x : List ℕ) (f : Function) → function_of arrays x ≡ Some f → is_some (intrinsic_named x) ≡ true
unfolding function_of
is_intrinsic arrays x f h =
    same_names (bytes_eq x (codes "ABS")) (bytes_eq x (codes "IABS")) (bytes_eq x (codes "MOD")) (bytes_eq x (codes "MAX")) (bytes_eq x (codes "MAX0")) (bytes_eq x (codes "MIN")) (bytes_eq x (codes "MIN0")) (unless_some arrays (function_named x) f h)

-- ---- bodies

module _ (p : ParsedTree) (ss : List SymbolTree) (a : Answered p ss) where
  bounds_are : (x : List ℕ) → bounds_of (symbol_named ss x) ≡ bounds_in (shape_of (find x (names_in p).entries))
  bounds_are x = ap (λ z. bounds_of (symbol_named z x)) a.table ∙ named-from (layout_in p) 0 (names_in p).entries x

  is_bare : (x : List ℕ) → has_shape x (names_in p).entries ≡ false → StandsBare ss x
  is_bare x h = bounds_are x ∙ bare_bounds (find x (names_in p).entries) h

  is_indexed : (x : List ℕ) (es : ExprTrees) → Indexed (names_in p) x es → StandsIndexed ss x es
  is_indexed x es (inl h) =
      let r = some_dimensions (find x (names_in p).entries) es (λ e k. all_good p x e k) h in
      inl (subst has_any (sym (bounds_are x)) r.0, r.1)
  is_indexed x es (inr (h, (f, k))) = inr (bounds_are x ∙ no_dimensions (find x (names_in p).entries) h, is_intrinsic (names_in p).arrays x f k)

  pub body_shaped : ShapedList (StandsBare ss) (StandsIndexed ss) p.module_read.body
  unfolding checked
  body_shaped = (let v = valued (lines_in p) p.module_read in stmts_shaped v.table (StandsBare ss) (StandsIndexed ss) is_bare is_indexed (lines_in p) p.module_read.body 0 (check_shapes v.table v.table.entries v.found) (found_none p ss a))

pub bodies_are_shaped : BodiesAreShaped
bodies_are_shaped p ss e = body_shaped p ss (answered_by p ss e)
