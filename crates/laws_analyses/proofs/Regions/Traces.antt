-- What is read and written in events one after another, and which modules are entered.
use Rattle.std.proofs.Common.{◌≡◌, ◌⊎◌, ⊎_elim, ℕ, List, [], ◌∷◌, ◌++◌, ◌||◌, ◌&&◌, Bool, true, false, refl, sym, ap, ◌∙◌, nat_eq, inl, inr, true≢false}
use Rattle.std.specs.List.{list_any}
use Rattle.std.proofs.lemmas.Bool.{or_left, or_right, or_parts, or_from}
use Rattle.f77_ast.specs.Runs.{Event, Arrived, Read as Reads, Wrote, Printed, Took}
use Rattle.call_graph.specs.declared.graph.Graph.{Graph}
use Rattle.f77_meaning.specs.Areas.{is_own_unit}
use Rattle.f77_meaning.specs.Modules.{Known, all_lost}
use Rattle.f77_meaning.specs.Linked.{numbering}
use Rattle.f77_meaning.specs.Accesses.{is_read, is_written, is_entry_of, is_entered}
use Rattle.in_out_regions.specs.region_sets.declared.region.Access.{Access}
use Rattle.in_out_regions.specs.region_sets.declared.region.Access.TheVariants.{Read, Write, In, Out}
use Rattle.laws_analyses.specs.Regions.Shown.{accessed, is_lost, is_hidden, Touches}
use Rattle.fx_lists.proofs.Booleans.{or_turned as or_assoc, or_cases}

read_both : (u : ℕ) (es fs : List Event) → is_read u (es ++ fs) ≡ (is_read u es || is_read u fs)
read_both u [] fs = refl
read_both u (Arrived p ∷ es) fs = read_both u es fs
read_both u (Reads v c ∷ es) fs = ap (λ b. nat_eq v u || b) (read_both u es fs) ∙ sym (or_assoc (nat_eq v u) (is_read u es) (is_read u fs))
read_both u (Wrote v c ∷ es) fs = read_both u es fs
read_both u (Printed xs ∷ es) fs = read_both u es fs
read_both u (Took o ∷ es) fs = read_both u es fs

written_both : (u : ℕ) (es fs : List Event) → is_written u (es ++ fs) ≡ (is_written u es || is_written u fs)
written_both u [] fs = refl
written_both u (Arrived p ∷ es) fs = written_both u es fs
written_both u (Reads v c ∷ es) fs = written_both u es fs
written_both u (Wrote v c ∷ es) fs = ap (λ b. nat_eq v u || b) (written_both u es fs) ∙ sym (or_assoc (nat_eq v u) (is_written u es) (is_written u fs))
written_both u (Printed xs ∷ es) fs = written_both u es fs
written_both u (Took o ∷ es) fs = written_both u es fs

pub accessed_both : (a : Access) (es fs : List Event) (u : ℕ) → accessed a (es ++ fs) u ≡ (accessed a es u || accessed a fs u)
accessed_both Read es fs u = read_both u es fs
accessed_both Write es fs u = written_both u es fs
accessed_both In es fs u = refl
accessed_both Out es fs u = refl

pub accessed_cases : (a : Access) (es fs : List Event) (u : ℕ) → accessed a (es ++ fs) u ≡ true → (accessed a es u ≡ true) ⊎ (accessed a fs u ≡ true)
accessed_cases a es fs u h = or_cases (accessed a es u) (accessed a fs u) (sym (accessed_both a es fs u) ∙ h)

pub accessed_left : (a : Access) (es fs : List Event) (u : ℕ) → accessed a es u ≡ true → accessed a (es ++ fs) u ≡ true
accessed_left a es fs u h = accessed_both a es fs u ∙ or_left (accessed a es u) (accessed a fs u) h

pub accessed_right : (a : Access) (es fs : List Event) (u : ℕ) → accessed a fs u ≡ true → accessed a (es ++ fs) u ≡ true
accessed_right a es fs u h = accessed_both a es fs u ∙ or_right (accessed a es u) (accessed a fs u) h

pub accessed_none : (a : Access) (u : ℕ) → accessed a [] u ≡ true → ⊥
accessed_none Read u h = true≢false (sym h)
accessed_none Write u h = true≢false (sym h)
accessed_none In u h = true≢false (sym h)
accessed_none Out u h = true≢false (sym h)

pub trace_assoc : (a b c : List Event) → (a ++ b) ++ c ≡ a ++ (b ++ c)
trace_assoc [] b c = refl
trace_assoc (x ∷ a) b c = ap (λ z. x ∷ z) (trace_assoc a b c)

pub trace_nil : (a : List Event) → a ++ [] ≡ a
trace_nil [] = refl
trace_nil (x ∷ a) = ap (λ z. x ∷ z) (trace_nil a)

-- ---- modules that are entered

pub entered_both : (m : List ℕ) (es fs : List Event) → is_entered m (es ++ fs) ≡ (is_entered m es || is_entered m fs)
entered_both m [] fs = refl
entered_both m (Arrived p ∷ es) fs = ap (λ b. is_entry_of m p || b) (entered_both m es fs) ∙ sym (or_assoc (is_entry_of m p) (is_entered m es) (is_entered m fs))
entered_both m (Reads v c ∷ es) fs = entered_both m es fs
entered_both m (Wrote v c ∷ es) fs = entered_both m es fs
entered_both m (Printed xs ∷ es) fs = entered_both m es fs
entered_both m (Took o ∷ es) fs = entered_both m es fs

pub both_off : (a b c : Bool) → ((a || b) && c) ≡ false → ((a && c) ≡ false) × ((b && c) ≡ false)
both_off true true c h = (h, h)
both_off true false c h = (h, refl)
both_off false b c h = (refl, h)

-- none of some modules that are entered in both has lost the unit
lost_of : (ks : List Known) (g : Graph) (es fs : List Event) (u : ℕ) (qs : List Known) → list_any (λ k. is_entered k.read.name (es ++ fs) && list_any (λ v. nat_eq v u) (all_lost (numbering ks g) k.read.name k.symbols k.symbols)) qs ≡ false → (list_any (λ k. is_entered k.read.name es && list_any (λ v. nat_eq v u) (all_lost (numbering ks g) k.read.name k.symbols k.symbols)) qs ≡ false) × (list_any (λ k. is_entered k.read.name fs && list_any (λ v. nat_eq v u) (all_lost (numbering ks g) k.read.name k.symbols k.symbols)) qs ≡ false)
lost_of ks g es fs u [] h = (refl, refl)
lost_of ks g es fs u (q ∷ qs) h =
    let f : List Event → Known → Bool = λ ts k. is_entered k.read.name ts && list_any (λ v. nat_eq v u) (all_lost (numbering ks g) k.read.name k.symbols k.symbols) in
    let l = list_any (λ v. nat_eq v u) (all_lost (numbering ks g) q.read.name q.symbols q.symbols) in
    let o = or_parts (is_entered q.read.name (es ++ fs) && l) (list_any (f (es ++ fs)) qs) h in
    let r = lost_of ks g es fs u qs o.1 in
    let b = both_off (is_entered q.read.name es) (is_entered q.read.name fs) l (ap (λ z. z && l) (sym (entered_both q.read.name es fs)) ∙ o.0) in
    (or_from (is_entered q.read.name es && l) (list_any (f es) qs) b.0 r.0, or_from (is_entered q.read.name fs && l) (list_any (f fs) qs) b.1 r.1)

-- what is not hidden in both is hidden in neither
pub hidden_parts : (ks : List Known) (g : Graph) (es fs : List Event) (u : ℕ) → is_hidden ks g (es ++ fs) u ≡ false → (is_hidden ks g es u ≡ false) × (is_hidden ks g fs u ≡ false)
hidden_parts ks g es fs u h =
    let o = or_parts (is_own_unit (numbering ks g) u) (is_lost ks g (es ++ fs) u) h in
    let r = lost_of ks g es fs u ks o.1 in
    (or_from (is_own_unit (numbering ks g) u) (is_lost ks g es u) o.0 r.0, or_from (is_own_unit (numbering ks g) u) (is_lost ks g fs u) o.0 r.1)

pub touches_cases : (ks : List Known) (g : Graph) (a : Access) (es fs : List Event) (u : ℕ) → Touches ks g a (es ++ fs) u → Touches ks g a es u ⊎ Touches ks g a fs u
touches_cases ks g a es fs u t =
    let q = hidden_parts ks g es fs u t.seen in
    ⊎_elim (λ h. inl (record { is_so = h; seen = q.0 })) (λ h. inr (record { is_so = h; seen = q.1 })) (accessed_cases a es fs u t.is_so)
