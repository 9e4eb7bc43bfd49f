-- Flags by their numbers.
use Rattle.std.proofs.Common.{◌≡◌, ℕ, zero, suc, ◌-◌, Bool, true, false, List, [], ◌∷◌, map, Option, Some, None, refl, sym, ap, ◌∙◌}
use Rattle.std.specs.Prelude.{if◌then◌else◌, nat_eq, slice_get, option_map}
use Rattle.f77_ast.specs.DeclTrees.{ParsedTree}
use Rattle.f77_ast.specs.Symbols.{SymbolTree}
use Rattle.f77_ast.specs.Shared.{numbered, symbol_at}
use Rattle.tracked_cells.specs.Equivalences.{equivalenced_names}
use Rattle.tracked_cells.specs.Tracked.{is_tracked}
use Rattle.call_graph.specs.declared.graph.Graph.{Graph}
use Rattle.affine_forms.specs.Scalars.{flag_of, is_cell}
use Rattle.call_translation.specs.Scopes.{ScopeTree}
use Rattle.laws_programs.specs.Storage.Programs.{IsCell}
use Rattle.laws_programs.specs.Storage.ScopeLaws.{IsScopeOf, FlagsTellCells, CellsHaveFlags}
use Rattle.fx_lists.proofs.Lists.{slice_get-map}

numbered-map : {A B : Type 0} (f : A → B) (xs : List A) (n : ℕ) → numbered (map f xs) n ≡ option_map f (numbered xs n)
numbered-map {A = A} {B = B} f xs n = go (nat_eq n 0)
  where
    go : (b : Bool) → (if b then None else slice_get (map f xs) (n - 1)) ≡ option_map f (if b then None else slice_get xs (n - 1))
    go true = refl
    go false = slice_get-map f xs (n - 1)

-- the flag of a symbol
abbrev pub flag : Graph → ParsedTree → List SymbolTree → SymbolTree → Bool
flag g p ss s = is_tracked (equivalenced_names p.module_read) ss g.untracked s

flag_at : (g : Graph) (p : ParsedTree) (ss : List SymbolTree) (m : ScopeTree) → IsScopeOf g p ss m → (n : ℕ) → is_cell m.tracked n ≡ flag_of (option_map (flag g p ss) (symbol_at ss n))
flag_at g p ss m is n = ap (λ fs. is_cell fs n) is.tracked ∙ ap flag_of (numbered-map (flag g p ss) ss n)

pub flags_tell_cells : FlagsTellCells
flags_tell_cells g p ss m is n h = go (symbol_at ss n) refl (sym (flag_at g p ss m is n) ∙ h)
  where
    go : (o : Option SymbolTree) → symbol_at ss n ≡ o → flag_of (option_map (flag g p ss) o) ≡ true → (s : SymbolTree) × IsCell g p ss n s
    go None e t = cc
    go (Some s) e t = (s, record { is_symbol = e; tracked = t })

pub cells_have_flags : CellsHaveFlags
cells_have_flags g p ss m is n s c = flag_at g p ss m is n ∙ ap (λ o. flag_of (option_map (flag g p ss) o)) c.is_symbol ∙ c.tracked
