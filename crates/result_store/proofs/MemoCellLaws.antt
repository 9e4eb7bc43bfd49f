-- The values of a memo cell, the newest last.
use Rattle.std.proofs.Common.{◌≡◌, ◌≤◌, ◌<◌, ℕ, zero, suc, ◌+◌, List, [], ◌∷◌, ◌++◌, length, map, drop, get_or, Option, Some, None, inl, inr, refl, sym, ap, ◌∙◌, subst, arith}
use Rattle.std.specs.Prelude.{slice_get, option_copied, option_map, IfSome, IfNone}
use Rattle.std.specs.Borrow.{Bor}
use Rattle.std.specs.List.{AllByRecursion}
use Rattle.std.proofs.lemmas.List.{map-append}
use Rattle.std.proofs.lemmas.Option.{slice_get-map}
use Rattle.pipsmake_meaning.specs.MemoCells.{MemoCell, Adds, IsNew, Keeps, Stamped, Kept, Sees}
use Rattle.pipsmake_meaning.specs.Values.{Value}
use Rattle.result_store.specs.declared.value.Value as code
use Rattle.result_store.specs.Fits.{ValueFits}
use Rattle.result_store.specs.Values.{value_tree}
use Rattle.result_store.proofs.ListLaws.{all_at, all_more}
use Rattle.fx_lists.proofs.Lookups.{get_last}

abbrev trees : List code.Value → List Value
trees vs = map value_tree vs

-- ---- looking from the newest back

pub is_new_last : (v : Value) (vs : List code.Value) (n : ℕ) → length vs ≤ n → IsNew v (drop n (trees vs))
is_new_last v [] zero h = tt
is_new_last v [] (suc n) h = tt
is_new_last v (w ∷ vs) zero h = absurd (omega (arith, h))
is_new_last v (w ∷ vs) (suc n) h = is_new_last v vs n (omega (arith, h))

pub is_new_before : (v : Value) (vs : List code.Value) (n : ℕ) (w : code.Value) → n < length vs → w ≡ get_or vs n w → (value_tree w ≡ v → ⊥) → IsNew v (drop (n + 1) (trees vs)) → IsNew v (drop n (trees vs))
is_new_before v [] n w h e d new = absurd (omega (arith, h))
is_new_before v (u ∷ vs) zero w h e d new =
    let same : drop (zero + 1) (trees (u ∷ vs)) ≡ trees vs = refl in
    (λ s. d (ap value_tree e ∙ s), subst (IsNew v) same new)
is_new_before v (u ∷ vs) (suc n) w h e d new =
    let z : suc n + 1 ≡ suc (n + 1) = omega arith in
    let rest : IsNew v (drop (suc (n + 1)) (trees (u ∷ vs))) = subst (λ k. IsNew v (drop k (trees (u ∷ vs)))) z new in
    is_new_before v vs n w (omega (arith, h)) e d rest

-- ---- a value that is seen

length-trees : (vs : List code.Value) → length (trees vs) ≡ length vs
length-trees [] = refl
length-trees (v ∷ vs) = ap suc (length-trees vs)

pub sees_known : (s : MemoCell) (v : Value) (n m : ℕ) → m ≡ n → slice_get s.values n ≡ Some v → Sees s v m s
sees_known s v n m z e = record { values = inl refl; at = ap (slice_get s.values) z ∙ e; kept = refl }

pub sees_new : (vs ws : List code.Value) (k : Option Kept) (v : code.Value) (n : ℕ) → ws ≡ vs ++ v ∷ [] → n ≡ length vs → IsNew (value_tree v) (trees vs) → Sees (record { values = trees vs; kept = k }) (value_tree v) n (record { values = trees ws; kept = k })
sees_new vs ws k v n e z new =
    let grown : trees ws ≡ trees vs ++ value_tree v ∷ [] = ap trees e ∙ map-append value_tree vs (v ∷ []) in
    record {
      values = inr (grown, new);
      at = ap (λ us. slice_get us n) grown ∙ ap (slice_get (trees vs ++ value_tree v ∷ [])) (z ∙ sym (length-trees vs)) ∙ get_last (trees vs) (value_tree v);
      kept = refl;
    }

pub keeps_seen : (old mid new : MemoCell) (v : Value) (n : ℕ) (needs : List Stamped) → Sees old v n mid → new.values ≡ mid.values → new.kept ≡ Some (record { stamp = n; needs = needs }) → Keeps old v needs new
keeps_seen old mid new v n needs s e k = record {
  stamp = n;
  values = subst (λ vs. Adds old.values v vs) (sym e) s.values;
  at = ap (λ vs. slice_get vs n) e ∙ s.at;
  kept = k;
}

pub all_fit : (vs ws : List code.Value) (v : code.Value) → ws ≡ vs ++ v ∷ [] → AllByRecursion ValueFits (trees vs) → ValueFits (value_tree v) → AllByRecursion ValueFits (trees ws)
all_fit vs ws v e fits fit = subst (AllByRecursion ValueFits) (sym (ap trees e ∙ map-append value_tree vs (v ∷ []))) (all_more ValueFits (trees vs) (value_tree v) fits fit)

-- ---- the value that is kept

pub got_fits : (vs : List code.Value) (n : ℕ) (o : Option (Bor code.Value)) → option_copied o ≡ slice_get vs n → AllByRecursion ValueFits (trees vs) → IfSome o (λ v. ValueFits (value_tree v.now))
got_fits vs n None e h = tt
got_fits vs n (Some v) e h = all_at ValueFits (trees vs) n (value_tree v.now) h (slice_get-map value_tree vs n ∙ ap (option_map value_tree) (sym e))

-- where nothing was found
pub none_found : {P : Type 0} (o : Option ℕ) → ((n : ℕ) → o ≡ Some n → ⊥) → IfNone o P → P
none_found None d h = h
none_found (Some n) d h = absurd (d n refl)
