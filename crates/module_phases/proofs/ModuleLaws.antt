-- Modules with their tables, and the module of a name.
use Rattle.std.proofs.Common.{◌≡◌, ℕ, zero, suc, List, [], ◌∷◌, length, map, Option, Some, None, refl, sym, ap, ap₂, ◌∙◌, arith}
use Rattle.std.specs.Prelude.{slice_get}
use Rattle.f77_ast.specs.declared.places.Parsed.{Parsed}
use Rattle.f77_ast.specs.PlainDecl.{parsed_tree}
use Rattle.f77_ast.specs.declared.symbol.Symbol.{Symbol}
use Rattle.f77_ast.specs.Symbols.{symbol_tree, number_from}
use Rattle.tracked_cells.specs.Names.{names_of}
use Rattle.f77_meaning.specs.Modules.{Known, known_of}
use Rattle.module_phases.specs.ScalarPhases.{module_names, module_at, module_of}
use Rattle.module_phases.specs.ScalarViews.{known}

-- where each module has a table
pub names_one_each : (ms : List Parsed) (ts : List (List Symbol)) → length ms ≡ length ts → names_of (map parsed_tree ms) ≡ module_names (known_of (map parsed_tree ms) (map (map symbol_tree) ts))
names_one_each [] [] e = refl
names_one_each [] (t ∷ ts) e = absurd (omega (arith, e))
names_one_each (m ∷ ms) [] e = absurd (omega (arith, e))
names_one_each (m ∷ ms) (t ∷ ts) e = ap (λ (xs : List (List ℕ)). m.module.name ∷ xs) (names_one_each ms ts (omega (arith, e)))

known-at : (ms : List Parsed) (ts : List (List Symbol)) (i : ℕ) (m : Parsed) (t : List Symbol) → slice_get ms i ≡ Some m → slice_get ts i ≡ Some t → slice_get (known_of (map parsed_tree ms) (map (map symbol_tree) ts)) i ≡ Some (known m.module t)
known-at [] ts i m t e f = cc
known-at (n ∷ ms) [] i m t e f = cc
known-at (n ∷ ms) (u ∷ ts) zero m t e f =
    let same : n ≡ m = cc in
    let also : u ≡ t = cc in
    ap₂ (λ (x : Parsed) (y : List Symbol). Some (known x.module y)) same also
known-at (n ∷ ms) (u ∷ ts) (suc i) m t e f = known-at ms ts i m t e f

known-no_module : (ms : List Parsed) (ts : List (List Symbol)) (i : ℕ) → slice_get ms i ≡ None → slice_get (known_of (map parsed_tree ms) (map (map symbol_tree) ts)) i ≡ None
known-no_module [] ts i e = refl
known-no_module (n ∷ ms) [] i e = refl
known-no_module (n ∷ ms) (u ∷ ts) zero e = cc
known-no_module (n ∷ ms) (u ∷ ts) (suc i) e = known-no_module ms ts i e

known-no_table : (ms : List Parsed) (ts : List (List Symbol)) (i : ℕ) → slice_get ts i ≡ None → slice_get (known_of (map parsed_tree ms) (map (map symbol_tree) ts)) i ≡ None
known-no_table [] ts i e = refl
known-no_table (n ∷ ms) [] i e = refl
known-no_table (n ∷ ms) (u ∷ ts) zero e = cc
known-no_table (n ∷ ms) (u ∷ ts) (suc i) e = known-no_table ms ts i e

-- ---- the module of a name

module _ (ms : List Parsed) (ts : List (List Symbol)) (names : List (List ℕ)) (x : List ℕ) where
  abbrev ks : List Known
  ks = known_of (map parsed_tree ms) (map (map symbol_tree) ts)

  placed : (o : Option ℕ) → names ≡ module_names ks → o ≡ number_from 0 names x → module_of ks x ≡ module_at ks o
  placed o n p = ap (module_at ks) (sym (p ∙ ap (λ (ys : List (List ℕ)). number_from 0 ys x) n))

  pub module-no_place : names ≡ module_names ks → None ≡ number_from 0 names x → None ≡ module_of ks x
  module-no_place n p = sym (placed None n p)

  pub module-no_module : (i : ℕ) → names ≡ module_names ks → Some i ≡ number_from 0 names x → None ≡ slice_get ms i → None ≡ module_of ks x
  module-no_module i n p e = sym (placed (Some i) n p ∙ known-no_module ms ts i (sym e))

  pub module-no_table : (i : ℕ) → names ≡ module_names ks → Some i ≡ number_from 0 names x → None ≡ slice_get ts i → None ≡ module_of ks x
  module-no_table i n p e = sym (placed (Some i) n p ∙ known-no_table ms ts i (sym e))

  pub module-found : (i : ℕ) (m : Parsed) (t : List Symbol) → names ≡ module_names ks → Some i ≡ number_from 0 names x → Some m ≡ slice_get ms i → Some t ≡ slice_get ts i → Some (known m.module t) ≡ module_of ks x
  module-found i m t n p e f = sym (placed (Some i) n p ∙ known-at ms ts i m t (sym e) (sym f))

pub ruleset modules = (module-no_place, module-no_module, module-no_table, module-found)

pub ruleset named = (names_one_each)
