-- Steps of cleaning.
use Rattle.std.proofs.Common.{◌≡◌, Bool, true, false, not, ◌&&◌, List, [], ◌∷◌, ◌++◌, reverse, append-nil, append_assoc, ap, refl, sym, subst, ◌∙◌}
use Rattle.std.specs.Prelude.{if◌then◌else◌}
use Rattle.std.proofs.lemmas.List.{reverse-append}
use Rattle.affine_systems.specs.declared.row.Row.{Row}
use Rattle.affine_systems.specs.Rows.{row, AllRows}
use Rattle.affine_systems.specs.Given.{IsGiven, IsSmallRow}
use Rattle.hull_projection.specs.Refute.{refuted, above, all_refuted, negations, entails}
use Rattle.hull_projection.specs.Clean.{is_spare, unless_spare, cleaned_behind, clean_rows}
use Rattle.affine_systems.proofs.ItemSteps.{popped}
use Rattle.affine_systems.proofs.FitLaws.{small_given}
use Rattle.affine_systems.proofs.RenameSteps.{given_append, given_small}
use Rattle.hull_projection.proofs.RefuteSteps.{above_given}
use Rattle.fx_lists.proofs.Booleans.{and_true}

pub spare-equal : (rs : List Row) (r : Row) → r.equal ≡ true → false ≡ is_spare rs r
spare-equal rs r e = ap (λ b. not b && entails rs r) (sym e)

pub spare-refuted : (rs all : List Row) (r : Row) (b : Bool) → r.equal ≡ false → all ≡ rs ++ above r ∷ [] → b ≡ refuted all → b ≡ is_spare rs r
spare-refuted rs all r b q e f =
    f ∙ (ap refuted e ∙ (sym (and_true (refuted (rs ++ above r ∷ [])))
    ∙ ap (λ a. not a && all_refuted rs (negations (row a r.terms r.bound))) (sym q)))

small_push : (rs : List Row) (r : Row) → AllRows IsSmallRow rs → IsSmallRow r → AllRows IsSmallRow (rs ++ r ∷ [])
small_push [] r h k = (k, tt)
small_push (s ∷ ss) r h k = (h.0, small_push ss r h.1 k)

small-reverse : (rs : List Row) → AllRows IsSmallRow rs → AllRows IsSmallRow (reverse rs)
small-reverse [] h = tt
small-reverse (r ∷ rs) h =
    subst (λ (ss : List Row). AllRows IsSmallRow ss) (sym (reverse-append (r ∷ []) rs)) (small_push (reverse rs) r (small-reverse rs h.1) h.0)

pub spare_given : (front behind rest all : List Row) (r s : Row) → AllRows IsSmallRow front → AllRows IsSmallRow behind → IsSmallRow r → rest ≡ reverse behind → s ≡ above r → all ≡ (front ++ rest) ++ s ∷ [] → AllRows IsGiven all
spare_given front behind rest all r s f b h e g a =
    subst (λ (rs : List Row). AllRows IsGiven rs) (sym a)
    (given_append (front ++ rest) (s ∷ [])
    (given_append front rest (given_small front f) (subst (λ (rs : List Row). AllRows IsGiven rs) (sym e) (given_small (reverse behind) (small-reverse behind b))))
    (above_given r s h g, tt))

pub spare-out : (front behind : List Row) (r : Row) (b : Bool) → b ≡ is_spare (front ++ reverse behind) r → b ≡ true → reverse behind ≡ unless_spare front r (reverse behind)
spare-out front behind r b e f = ap (λ c. if c then reverse behind else r ∷ reverse behind) (sym (sym e ∙ f))

pub spare-in : (front behind new : List Row) (r : Row) (b : Bool) → b ≡ is_spare (front ++ reverse behind) r → b ≡ false → new ≡ behind ++ r ∷ [] → reverse new ≡ unless_spare front r (reverse behind)
spare-in front behind new r b e f n = popped new behind r n ∙ ap (λ c. if c then reverse behind else r ∷ reverse behind) (sym (sym e ∙ f))

pub small_pushed : (rs new : List Row) (r : Row) → AllRows IsSmallRow rs → IsSmallRow r → new ≡ rs ++ r ∷ [] → AllRows IsSmallRow new
small_pushed rs new r h k e = subst (λ (ss : List Row). AllRows IsSmallRow ss) (sym e) (small_push rs r h k)

pub ruleset spare = (spare-equal, spare-refuted, spare_given, spare-out, spare-in, small_pushed)

-- ---- rows taken from the end

-- rows behind others and before cleaned ones, cleaned from the last to the first
abbrev onto : List Row → List Row → List Row → List Row
onto front [] after = after
onto front (r ∷ rs) after = unless_spare front r (onto (front ++ r ∷ []) rs after)

onto-last : (front rs : List Row) (r : Row) (after : List Row) → onto front (rs ++ r ∷ []) after ≡ onto front rs (unless_spare (front ++ rs) r after)
onto-last front [] r after = ap (λ f. unless_spare f r after) (sym (append-nil front))
onto-last front (x ∷ xs) r after =
    ap (unless_spare front x) (onto-last (front ++ x ∷ []) xs r after ∙ ap (λ f. onto (front ++ x ∷ []) xs (unless_spare f r after)) (append_assoc front (x ∷ []) xs))

onto-nothing : (front rs : List Row) → onto front rs [] ≡ cleaned_behind front rs
onto-nothing front [] = refl
onto-nothing front (r ∷ rs) = ap (unless_spare front r) (onto-nothing (front ++ r ∷ []) rs)

-- what is left to clean, and what is done, from the last on
pub record IsCleaned (front behind all : List Row) : Type 0 where
  pub value : onto [] front (reverse behind) ≡ clean_rows all
  pub left : AllRows IsSmallRow front
  pub done : AllRows IsSmallRow behind

pub cleaned-begin : (front behind all : List Row) → front ≡ all → behind ≡ [] → AllRows IsSmallRow all → IsCleaned front behind all
cleaned-begin front behind all f e h =
    subst (λ (rs : List Row). IsCleaned rs behind all) (sym f) (subst (λ (bs : List Row). IsCleaned all bs all) (sym e) (record { value = onto-nothing [] all; left = h; done = tt }))

small_front : (rs : List Row) (r : Row) → AllRows IsSmallRow (rs ++ r ∷ []) → AllRows IsSmallRow rs × IsSmallRow r
small_front [] r h = (tt, h.0)
small_front (s ∷ ss) r h = let k = small_front ss r h.1 in ((h.0, k.0), k.1)

pub cleaned-row : (front more behind all : List Row) (r : Row) → front ≡ more ++ r ∷ [] → IsCleaned front behind all → AllRows IsSmallRow more × IsSmallRow r
cleaned-row front more behind all r e h = small_front more r (subst (λ (rs : List Row). AllRows IsSmallRow rs) e h.left)

pub cleaned-more : (front more behind new all : List Row) (r : Row) → front ≡ more ++ r ∷ [] → reverse new ≡ unless_spare more r (reverse behind) → AllRows IsSmallRow new → IsCleaned front behind all → IsCleaned more new all
cleaned-more front more behind new all r e n s h = record {
  value = ap (onto [] more) n ∙ (sym (onto-last [] more r (reverse behind)) ∙ (ap (λ rs. onto [] rs (reverse behind)) (sym e) ∙ h.value));
  left = (cleaned-row front more behind all r e h).0;
  done = s;
}

pub cleaned-end : (front behind all : List Row) → front ≡ [] → IsCleaned front behind all → reverse behind ≡ clean_rows all
cleaned-end front behind all e h = ap (λ rs. onto [] rs (reverse behind)) (sym e) ∙ h.value
