-- Bounds that are found, lists of references, and the walk over statements.
use Rattle.std.proofs.Common.{◌≡◌, ℕ, ◌-◌, Bool, true, false, List, [], ◌∷◌, ◌++◌, map, Option, Some, None, refl, sym, ap, ◌∙◌, append_assoc, append-nil}
use Rattle.std.specs.Prelude.{if◌then◌else◌, nat_eq, slice_get}
use Rattle.std.specs.Option.{option_map}
use Rattle.std.proofs.lemmas.List.Elements.{filter-append}
use Rattle.f77_ast.specs.declared.expr.Expr.{the_lemmas}
use Rattle.f77_ast.specs.declared.symbol.Symbol.{Symbol}
use Rattle.f77_ast.specs.Symbols.{bound_tree, symbol_tree}
use Rattle.f77_ast.specs.Shared.{numbered, symbol_at}
use Rattle.f77_ast.proofs.Plainly.{expr_cases, expr_lists}
use Rattle.f77_ast.proofs.PlainlyStmt.{loop_tree-out, what_cases}
use Rattle.f77_ast.proofs.WalkLaws.{shape_calls}
use Rattle.fx_lists.proofs.Lists.{slice_get-map}
use Rattle.bound_check.specs.References.{bounds_in, bounds_at}
use Rattle.bound_check.specs.Checked.{SeenTree, none, join}

-- ---- bounds

symbol-mapped : (ss : List Symbol) (n : ℕ) → symbol_at (map symbol_tree ss) n ≡ option_map symbol_tree (numbered ss n)
symbol-mapped ss n = go (nat_eq n 0)
  where
    go : (b : Bool) → (if b then None else slice_get (map symbol_tree ss) (n - 1)) ≡ option_map symbol_tree (if b then None else slice_get ss (n - 1))
    go true = refl
    go false = slice_get-map symbol_tree ss (n - 1)

pub bounds-none : (ss : List Symbol) (n : ℕ) → None ≡ numbered ss n → bounds_at (map symbol_tree ss) (Some n) ≡ []
bounds-none ss n e = ap bounds_in (symbol-mapped ss n ∙ ap (option_map symbol_tree) (sym e))

pub bounds-some : (ss : List Symbol) (n : ℕ) (s : Symbol) → Some s ≡ numbered ss n → bounds_at (map symbol_tree ss) (Some n) ≡ map bound_tree s.bounds
bounds-some ss n s e = ap bounds_in (symbol-mapped ss n ∙ ap (option_map symbol_tree) (sym e))

pub ruleset bounds_found = (bounds-none, bounds-some)

-- ---- references

pub ruleset lists = (append_assoc, append-nil)

pub ruleset expr_parts = (expr_cases, the_lemmas, filter-append, append_assoc, append-nil)

pub ruleset expr_rest = (expr_lists, the_lemmas, filter-append)

pub ruleset expressions = (expr_lists)

pub ruleset headers = (loop_tree-out, append_assoc, append-nil)

pub ruleset whats = (what_cases, append_assoc, append-nil)

-- ---- statements

pub join-assoc : (s t u : SeenTree) → join (join s t) u ≡ join s (join t u)
unfolding join
join-assoc s t u = λ i. record {
  own = record { safe = append_assoc s.own.safe t.own.safe u.own.safe i; others = append_assoc s.own.others t.own.others u.own.others i };
  below = append_assoc s.below t.below u.below i;
}

pub join-none : (s : SeenTree) → join s none ≡ s
unfolding join
join-none s = λ i. record {
  own = record { safe = append-nil s.own.safe i; others = append-nil s.own.others i };
  below = append-nil s.below i;
}

pub none-join : (s : SeenTree) → join none s ≡ s
unfolding join
none-join s = refl

pub ruleset walks = (shape_calls, join-assoc, join-none, none-join)
