-- What is known of the scene of a module where a CALL stands or leads: where its tracked cells are, by its table of symbols.
use Rattle.std.specs.Prelude.{◌≡◌, ℕ, true, false, ◌&&◌, List, Some}
use Rattle.f77_ast.specs.declared.symbol.Place.TheVariants.{Block}
use Rattle.f77_ast.specs.declared.variable.Unit.{Unit as BlockUnit}
use Rattle.f77_ast.specs.Symbols.{SymbolTree}
use Rattle.f77_ast.specs.Shared.{place_at}
use Rattle.tracked_cells.specs.Scalars.{unit}
use Rattle.affine_forms.specs.Scalars.{is_cell}
use Rattle.preconditions.specs.transformer_algebra.Claims.{Scene}
use Rattle.preconditions.specs.call_translation.Scopes.{ScopeTree}
use Rattle.preconditions.specs.call_translation.Common.{declares}
use Rattle.preconditions.specs.transformers.Modules.{is_visible_to_callers}

-- a module as its callers see it: of its cells only the dummies and those in blocks
abbrev pub outside : List SymbolTree → Scene → Scene
outside ss m = record { tracked = λ c. m.tracked c && is_visible_to_callers ss c; unit = m.unit; far = m.far; place = m.place }

-- a symbol lies in a block, at an offset
abbrev pub IsInBlock : List SymbolTree → ℕ → List ℕ → ℕ → Type 0
IsInBlock ss c b o = place_at ss c ≡ Some (Block b o)

-- a tracked cell that lies in a block has the unit at its offset there
abbrev pub LieInBlocks : List SymbolTree → Scene → Type 0
LieInBlocks ss m = (c : ℕ) (b : List ℕ) (o : ℕ) → m.tracked c ≡ true → IsInBlock ss c b o → m.unit c ≡ m.place (unit b o)

-- no two tracked cells lie at one offset of a block
abbrev pub LieApart : List SymbolTree → Scene → Type 0
LieApart ss m = (c d : ℕ) (b : List ℕ) (o : ℕ) → m.tracked c ≡ true → m.tracked d ≡ true → IsInBlock ss c b o → IsInBlock ss d b o → c ≡ d

-- a scene of a module with this table
pub record IsSceneOf (s : ScopeTree) (m : Scene) : Type 0 where
  -- its tracked cells are those of the table
  pub tracked : (c : ℕ) → m.tracked c ≡ is_cell s.tracked c
  pub blocks : LieInBlocks s.symbols m
  pub apart : LieApart s.symbols m
  -- no variable stands at a far unit
  pub hidden : (u : BlockUnit) → m.far u ≡ true → declares s u.block u.offset ≡ false
