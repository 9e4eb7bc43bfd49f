-- A system that is copied.
use Rattle.std.proofs.Common.{◌≡◌, Bool, List, ℤ, ap, ap₂, ◌∙◌}
use Rattle.std.specs.List.{AllZip}
use Rattle.std.proofs.lemmas.List.Elements.{same_from_all_zip}
use Rattle.affine_systems.specs.declared.row.Term.{Term}
use Rattle.affine_systems.specs.declared.row.Row.{Row}
use Rattle.affine_systems.specs.declared.row.System.{System}
use Rattle.affine_systems.specs.Rows.{row}

abbrev pub SameTerm : Term → Term → Type 0
SameTerm a b = b ≡ a

abbrev pub SameRow : Row → Row → Type 0
SameRow x y = (y.equal ≡ x.equal) × (AllZip SameTerm x.terms y.terms × (y.bound ≡ x.bound))

row_same : (x y : Row) → SameRow x y → y ≡ x
row_same x y h =
    ap (λ (b : Bool). row b y.terms y.bound) h.0
    ∙ (ap (λ (ts : List Term). row x.equal ts y.bound) (same_from_all_zip SameTerm x.terms y.terms h.1.0 (λ a b k. k))
    ∙ ap (λ (n : ℤ). row x.equal x.terms n) h.1.1)

pub system_same : (s t : System) → AllZip SameRow s.rows t.rows × (t.weak ≡ s.weak) → t ≡ s
system_same s t h =
    let make : List Row → Bool → System = λ rs w. record { rows = rs; weak = w } in
    ap₂ make (same_from_all_zip SameRow s.rows t.rows h.0 row_same) h.1
