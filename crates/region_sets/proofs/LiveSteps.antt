-- Regions that are handed on: what is left of them, and their place in a set.
use Rattle.std.proofs.Common.{◌≡◌, ℕ, ◌+◌, ◌-◌, ◌<◌, ◌≤◌, Bool, true, false, List, [], ◌∷◌, ◌++◌, length, take, get_or, reverse, append_assoc, append-nil, length-append, take_all, ap, ap₂, refl, sym, subst, ◌∙◌, arith}
use Rattle.std.specs.Prelude.{if◌then◌else◌, not, ◌&&◌}
use Rattle.std.specs.declared.cmp.Ordering.TheVariants.{Less}
use Rattle.std.proofs.lemmas.List.{reverse-append, reverse-reverse, take_more}
use Rattle.affine_systems.specs.declared.row.System.{System}
use Rattle.affine_systems.proofs.ItemSteps.{reverse_pushed}
use Rattle.region_sets.specs.declared.region.Region.{Region}
use Rattle.region_sets.specs.Regions.{RegionFits, region, remade, any_weak}
use Rattle.region_sets.specs.declared.trimming.Trimmed.{Trimmed}
use Rattle.region_sets.specs.Trim.{trim}
use Rattle.region_sets.specs.Sets.{SetFits, ComeBefore, region_cmp, with_pieces, with_region, with_trimmed, with_regions, all_trimmed}
use Rattle.region_sets.proofs.Steps.{set-push}
use Rattle.region_sets.proofs.SetSteps.{come_same, come_back, come_chain, come_none, trimmed_more, gather_fits}
use Rattle.region_sets.proofs.TrimSteps.{trim_known}
use Rattle.region_sets.proofs.SettledLaws.{less_settled, last_settled, reverse_settled}

-- ---- regions with their pieces trimmed

-- where one is left
left_some : (r : Region) (e : Bool) (ss : List System) → (ss ≡ [] → ⊥) → remade r e ss ∷ [] ≡ with_pieces r e ss (λ s. s ∷ []) []
left_some r e [] f = absurd (f refl)
left_some r e (s ∷ ss) f = refl

pub left_none : (r : Region) (t : Trimmed) → t ≡ trim r.pieces → t.pieces ≡ [] → [] ≡ all_trimmed (r ∷ [])
left_none r t e f = ap (λ (ss : List System). with_pieces r (r.exact && (trim r.pieces).exact) ss (λ s. s ∷ []) []) (sym f ∙ ap (λ (u : Trimmed). u.pieces) e)

pub left_is : (r : Region) (t : Trimmed) (us : List System) (b : Bool) → t ≡ trim r.pieces → (t.pieces ≡ [] → ⊥) → us ≡ t.pieces → b ≡ ((r.exact && t.exact) && not (any_weak us)) → region r.variable r.kind b t.pieces ∷ [] ≡ all_trimmed (r ∷ [])
left_is r t us b e f u x =
    ap (λ c. region r.variable r.kind c t.pieces ∷ []) (x ∙ ap (λ (ts : List System). (r.exact && t.exact) && not (any_weak ts)) u)
    ∙ (left_some r (r.exact && t.exact) t.pieces f ∙ ap (λ (v : Trimmed). with_pieces r (r.exact && v.exact) v.pieces (λ s. s ∷ []) []) e)

trimmed_append : (rs ss : List Region) → all_trimmed (rs ++ ss) ≡ all_trimmed rs ++ all_trimmed ss
trimmed_append [] ss = refl
trimmed_append (r ∷ rs) ss =
    trimmed_more r (rs ++ ss)
    ∙ (ap (λ (us : List Region). all_trimmed (r ∷ []) ++ us) (trimmed_append rs ss)
    ∙ (sym (append_assoc (all_trimmed (r ∷ [])) (all_trimmed rs) (all_trimmed ss)) ∙ ap (λ (us : List Region). us ++ all_trimmed ss) (sym (trimmed_more r rs))))

trimmed_one : (r : Region) → reverse (all_trimmed (r ∷ [])) ≡ all_trimmed (r ∷ [])
trimmed_one r = go (r.exact && (trim r.pieces).exact) (trim r.pieces).pieces
  where
    go : (e : Bool) (ss : List System) → reverse (with_pieces r e ss (λ s. s ∷ []) []) ≡ with_pieces r e ss (λ s. s ∷ []) []
    go e [] = refl
    go e (s ∷ ss) = refl

-- one region more, from the last on
pub trimmed_back : (left less out new goal : List Region) (r : Region) → left ≡ less ++ r ∷ [] → new ≡ out ++ all_trimmed (r ∷ []) → all_trimmed left ++ reverse out ≡ goal → all_trimmed less ++ reverse new ≡ goal
trimmed_back left less out new goal r e n h =
    let x : reverse new ≡ all_trimmed (r ∷ []) ++ reverse out = ap reverse n ∙ (reverse-append out (all_trimmed (r ∷ [])) ∙ ap (λ (us : List Region). us ++ reverse out) (trimmed_one r)) in
    let y : all_trimmed left ≡ all_trimmed less ++ all_trimmed (r ∷ []) = ap all_trimmed e ∙ trimmed_append less (r ∷ []) in
    ap (λ (us : List Region). all_trimmed less ++ us) x
    ∙ (sym (append_assoc (all_trimmed less) (all_trimmed (r ∷ [])) (reverse out)) ∙ (ap (λ (us : List Region). us ++ reverse out) (sym y) ∙ h))

pub trimmed_done : (left out goal : List Region) → left ≡ [] → all_trimmed left ++ reverse out ≡ goal → reverse out ≡ goal
trimmed_done left out goal e h = ap (λ (us : List Region). all_trimmed us ++ reverse out) (sym e) ∙ h

-- ---- a set whose last region is taken away

parts_fit : (qs : List Region) (r : Region) → SetFits (qs ++ r ∷ []) → SetFits qs × RegionFits r
parts_fit [] r f = (tt, f.0)
parts_fit (q ∷ qs) r f = let k = parts_fit qs r f.1 in ((f.0, k.0), k.1)

pub less_fits : (left less : List Region) (r : Region) → left ≡ less ++ r ∷ [] → SetFits left → SetFits less
less_fits left less r e h = (parts_fit less r (subst SetFits e h)).0

pub last_fits : (left less : List Region) (r : Region) → left ≡ less ++ r ∷ [] → SetFits left → RegionFits r
last_fits left less r e h = (parts_fit less r (subst SetFits e h)).1

pub reverse_fits : (rs : List Region) → SetFits rs → SetFits (reverse rs)
reverse_fits [] h = tt
reverse_fits (r ∷ rs) h = subst SetFits (sym (reverse-append (r ∷ []) rs)) (set-push (reverse rs) r (reverse_fits rs h.1) h.0)

pub ruleset keeping = (trim_known, left_is, left_none, trimmed_back, trimmed_done, less_fits, last_fits, reverse_fits, less_settled, last_settled)

-- ---- a region put into a set with its pieces trimmed

module _ (r : Region) (e : Bool) where
  put_there : (s : Region) (qs : List Region) (ss : List System) → s ∷ [] ≡ with_pieces r e ss (λ t. t ∷ []) [] → with_region s qs ≡ with_pieces r e ss (λ t. with_region t qs) qs
  put_there s qs [] f = absurd (cc)
  put_there s qs (p ∷ ss) f = let same : s ≡ remade r e (p ∷ ss) = cc in ap (λ (t : Region). with_region t qs) same

  put_nowhere : (qs : List Region) (ss : List System) → [] ≡ with_pieces r e ss (λ t. t ∷ []) [] → qs ≡ with_pieces r e ss (λ t. with_region t qs) qs
  put_nowhere qs [] f = refl
  put_nowhere qs (p ∷ ss) f = absurd (cc)

  before_there : (s : Region) (qs : List Region) (ss : List System) → s ∷ [] ≡ with_pieces r e ss (λ t. t ∷ []) [] → ComeBefore r qs → ComeBefore s qs
  before_there s qs [] f h = absurd (cc)
  before_there s qs (p ∷ ss) f h = let same : s ≡ remade r e (p ∷ ss) = cc in come_same r s qs e (p ∷ ss) same h

  before_again : (s : Region) (qs : List Region) (ss : List System) → s ∷ [] ≡ with_pieces r e ss (λ t. t ∷ []) [] → ComeBefore s qs → ComeBefore r qs
  before_again s qs [] f h = absurd (cc)
  before_again s qs (p ∷ ss) f h = let same : s ≡ remade r e (p ∷ ss) = cc in come_back r s qs e (p ∷ ss) same h

pub put_some : (r s : Region) (qs : List Region) → s ∷ [] ≡ all_trimmed (r ∷ []) → with_region s qs ≡ with_trimmed r qs
put_some r s qs f = put_there r (r.exact && (trim r.pieces).exact) s qs (trim r.pieces).pieces f

pub put_none : (r : Region) (qs : List Region) → [] ≡ all_trimmed (r ∷ []) → qs ≡ with_trimmed r qs
put_none r qs f = put_nowhere r (r.exact && (trim r.pieces).exact) qs (trim r.pieces).pieces f

pub put_same : (r s : Region) (qs : List Region) → s ∷ [] ≡ all_trimmed (r ∷ []) → ComeBefore r qs → ComeBefore s qs
put_same r s qs f h = before_there r (r.exact && (trim r.pieces).exact) s qs (trim r.pieces).pieces f h

pub put_back : (r s : Region) (qs : List Region) → s ∷ [] ≡ all_trimmed (r ∷ []) → ComeBefore s qs → ComeBefore r qs
put_back r s qs f h = before_again r (r.exact && (trim r.pieces).exact) s qs (trim r.pieces).pieces f h

pub ruleset put_steps = (put_some, put_none, put_same, put_back)

-- ---- regions gathered from the last on

-- the last of the regions that are left comes behind those before a place
abbrev pub StartsAt : List Region → List Region → ℕ → Type 0
StartsAt left set start = (d : Region) → 0 < length left → ComeBefore (get_or left (length left - 1) d) (take start set)

last_is : (less : List Region) (r d : Region) → get_or (less ++ r ∷ []) (length less) d ≡ r
last_is [] r d = refl
last_is (q ∷ less) r d = last_is less r d

pub start_of_last : (left less set : List Region) (r : Region) (start : ℕ) → left ≡ less ++ r ∷ [] → StartsAt left set start → ComeBefore r (take start set)
start_of_last left less set r start e h =
    let n : length left ≡ length less + 1 = ap length e ∙ length-append less (r ∷ []) in
    let m : length left - 1 ≡ length less = omega (arith, n) in
    let at : get_or left (length left - 1) r ≡ r = ap₂ (λ (us : List Region) k. get_or us k r) e m ∙ last_is less r r in
    subst (λ (q : Region). ComeBefore q (take start set)) at (h r (omega (arith, n)))

pub next_before : (less us set : List Region) (r d : Region) (at start : ℕ) (rises : Bool) → us ≡ less → start ≡ (if rises then at else 0) →
    (rises ≡ true → (c : Region) → region_cmp r (get_or us (length us - 1) c) ≡ Less) → ComeBefore r (take at set) → 0 < length less → ComeBefore (get_or less (length less - 1) d) (take start set)
next_before less us set r d at start true u e f h l =
    let k : region_cmp r (get_or less (length less - 1) d) ≡ Less = subst (λ (qs : List Region). region_cmp r (get_or qs (length qs - 1) d) ≡ Less) u (f refl d) in
    subst (λ m. ComeBefore (get_or less (length less - 1) d) (take m set)) (sym e) (come_chain r (get_or less (length less - 1) d) (take at set) k h)
next_before less us set r d at start false u e f h l = subst (λ m. ComeBefore (get_or less (length less - 1) d) (take m set)) (sym e) (come_none (get_or less (length less - 1) d) set)

pub first_before : (left set : List Region) (d : Region) → ComeBefore (get_or left (length left - 1) d) (take 0 set)
first_before left set d = come_none (get_or left (length left - 1) d) set

pub gather_back : (left less set new goal : List Region) (r : Region) → left ≡ less ++ r ∷ [] → new ≡ with_trimmed r set → with_regions set (reverse left) ≡ goal → with_regions new (reverse less) ≡ goal
gather_back left less set new goal r e n h =
    ap (λ (qs : List Region). with_regions qs (reverse less)) n ∙ (ap (with_regions set) (sym (ap reverse e ∙ reverse_pushed less (less ++ r ∷ []) r refl)) ∙ h)

pub gather_done : (left set goal : List Region) → left ≡ [] → with_regions set (reverse left) ≡ goal → set ≡ goal
gather_done left set goal e h = ap (λ (us : List Region). with_regions set (reverse us)) (sym e) ∙ h

pub ruleset gathering = (less_settled, last_settled, start_of_last, next_before, first_before, gather_back, gather_done, less_fits, last_fits)

-- ---- copies, the last first

copied_next : (rs out new : List Region) (i : ℕ) (r : Region) → i < length rs → r ≡ get_or rs i r → new ≡ out ++ r ∷ [] → out ++ reverse (take (i + 1) rs) ≡ reverse rs → new ++ reverse (take i rs) ≡ reverse rs
copied_next rs out new i r l e n h =
    let x : reverse (take (i + 1) rs) ≡ r ∷ reverse (take i rs) =
    ap reverse (take_more rs i r l) ∙ (reverse_pushed (take i rs) (take i rs ++ get_or rs i r ∷ []) (get_or rs i r) refl ∙ ap (λ (q : Region). q ∷ reverse (take i rs)) (sym e)) in
    ap (λ (us : List Region). us ++ reverse (take i rs)) n ∙ (append_assoc out (r ∷ []) (reverse (take i rs)) ∙ (ap (λ (us : List Region). out ++ us) (sym x) ∙ h))

pub copied_more : (rs out new : List Region) (n : ℕ) (r : Region) → 0 < n → n ≤ length rs → r ≡ get_or rs (n - 1) r → new ≡ out ++ r ∷ [] → out ++ reverse (take n rs) ≡ reverse rs → new ++ reverse (take (n - 1) rs) ≡ reverse rs
copied_more rs out new n r z l e x h =
    let m : n ≡ n - 1 + 1 = omega (arith, z) in
    copied_next rs out new (n - 1) r (omega (arith, z, l)) e x (subst (λ k. out ++ reverse (take k rs) ≡ reverse rs) m h)

pub copied_begin : (rs : List Region) → [] ++ reverse (take (length rs) rs) ≡ reverse rs
copied_begin rs = ap reverse (take_all (length rs) rs (omega arith))

pub copied_end : (rs out : List Region) (n : ℕ) → n ≤ 0 → out ++ reverse (take n rs) ≡ reverse rs → out ≡ reverse rs
copied_end rs out n l h =
    let z : n ≡ 0 = omega (arith, l) in
    sym (append-nil out) ∙ (ap (λ (us : List Region). out ++ reverse us) (sym (nothing rs)) ∙ (ap (λ k. out ++ reverse (take k rs)) (sym z) ∙ h))
  where
    nothing : (qs : List Region) → take 0 qs ≡ []
    nothing [] = refl
    nothing (q ∷ qs) = refl

pub twice : (rs : List Region) → reverse (reverse rs) ≡ rs
twice rs = reverse-reverse rs

pub ruleset copying = (reverse_settled, copied_more, copied_begin, copied_end, set-push, gather_fits, reverse_fits, twice)
