-- What is said of names, and nothing said.
use Rattle.std.proofs.Common.{◌≡◌, ℕ, ◌+◌, Bool, true, false, List, [], ◌∷◌, map, refl, ap, add-one, ◌∙◌}
use Rattle.std.specs.Prelude.{if◌then◌else◌, bytes_eq}
use Rattle.f77_ast.specs.declared.decl.Extent.{Extent}
use Rattle.f77_ast.specs.PlainDecl.{extent_tree}
use Rattle.f77_ast.proofs.PlainlyDecl.{mapped-drop}
use Rattle.std.proofs.Math.Seq.{drop-cons}
use Rattle.f77_ast.specs.Symbols.{bound_tree}
use Rattle.f77_names.specs.declared.entry.Shape.{Shape}
use Rattle.f77_names.specs.declared.entry.Word.TheVariants.{Bounds}
use Rattle.fx_lists.specs.declared.code.Code.TheVariants.{DeclaredTwice}
use Rattle.f77_names.specs.Entries.{EntryTree, changed, has_shape, shape_tree, with_shape}
use Rattle.fx_lists.specs.Refusals.{refuse_if}
use Rattle.f77_names.specs.Words.{said_once}
use Rattle.f77_names.specs.Declaring.{Told, bound_of, shaped}

pub changed-same : (x : List ℕ) (es : List EntryTree) → changed x (λ e. e) es ≡ es
changed-same x [] = refl
changed-same x (e ∷ es) = go (bytes_eq x e.name) (changed-same x es)
  where
    go : (b : Bool) → changed x (λ e. e) es ≡ es → (if b then e ∷ es else e ∷ changed x (λ e. e) es) ≡ e ∷ es
    go true ih = refl
    go false ih = ap (λ zs. e ∷ zs) ih

pub ruleset same_steps = (changed-same)

-- bounds that are given
pub shaped-some : (x : List ℕ) (es : List Extent) (line : ℕ) (s : Shape) (t : Told) → (es ≡ [] → ⊥) → s.line ≡ line → map bound_tree s.bounds ≡ map bound_of (map extent_tree es) → said_once x (Bounds s) line DeclaredTwice t ≡ shaped x (map extent_tree es) line t
shaped-some x [] line s t some e f = absurd (some refl)
shaped-some x (b ∷ bs) line s t some e f =
    let same : shape_tree s ≡ record { line = line; bounds = map bound_of (map extent_tree (b ∷ bs)) } = cc in
    ap (λ z. record { entries = changed x (with_shape z) t.entries; found = refuse_if (has_shape x t.entries) line DeclaredTwice t.found }) same

pub ruleset steps = (mapped-drop, drop-cons, add-one)
