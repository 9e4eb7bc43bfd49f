-- The answer, from what its parts give.
use Rattle.std.proofs.Common.{◌≡◌, List, Option, Result, ap, ◌∙◌, subst}
use Rattle.f77_ast.specs.declared.places.Spot.{Spot}
use Rattle.f77_ast.specs.DeclTrees.{ModuleTree, ParsedTree}
use Rattle.f77_ast.specs.declared.symbol.Symbol.{Symbol}
use Rattle.fx_lists.specs.declared.refusal.Refusal.{Refusal}
use Rattle.f77_names.specs.Lines.{LineTable, lines_of}
use Rattle.f77_names.specs.Tables.{NameTable, table_of, check_names}
use Rattle.f77_checks.specs.Parameters.{Valued, decls_valued}
use Rattle.storage_layout.specs.declared.refusal.LayoutRefusal.{LayoutRefusal}
use Rattle.storage_layout.specs.Gives.{Gives}
use Rattle.storage_layout.specs.Symbols.{valued, check_and_lay_out, symbols_at, symbols_of}

-- the names and the first refusal, and then the values, are those of the definition
pub valued-as : (at : LineTable) (m : ModuleTree) (t : NameTable) (found : Option Refusal) (v : Valued) → t ≡ table_of at m → found ≡ check_names at m → v ≡ decls_valued at m.decls 0 (record { table = t; found = found }) → v ≡ valued at m
unfolding valued
valued-as at m t found v a b e =
    e
    ∙ ap (λ (x : NameTable). decls_valued at m.decls 0 (record { table = x; found = found })) a
    ∙ ap (λ (x : Option Refusal). decls_valued at m.decls 0 (record { table = table_of at m; found = x })) b

pub given-at : (r : Result (List Symbol) LayoutRefusal) (at : LineTable) (m : ModuleTree) (t : NameTable) (found : Option Refusal) (v : Valued) → t ≡ table_of at m → found ≡ check_names at m → v ≡ decls_valued at m.decls 0 (record { table = t; found = found })
    → Gives r (check_and_lay_out at m v) → Gives r (symbols_at at m)
unfolding symbols_at
given-at r at m t found v a b e given = subst (λ (x : Valued). Gives r (check_and_lay_out at m x)) (valued-as at m t found v a b e) given

-- the lines are those of the spots
pub given-of : (r : Result (List Symbol) LayoutRefusal) (p : ParsedTree) (at : LineTable) (spots : List Spot) → at ≡ lines_of spots → spots ≡ p.places.spots → Gives r (symbols_at at p.module_read) → Gives r (symbols_of p)
unfolding symbols_of
given-of r p at spots e s given = subst (λ (x : LineTable). Gives r (symbols_at x p.module_read)) (e ∙ ap lines_of s) given
