-- Lists that were read: what holds of each item that is read holds of the items of the list.
use Rattle.std.proofs.Common.{◌≡◌, ℕ, zero, suc, List, [], ◌∷◌, ◌++◌, length, refl, subst, Option, Some, None}
use Rattle.f77_exprs.specs.declared.at.Notes.{Notes}
use Rattle.f77_exprs.specs.Words.{after}
use Rattle.f77_exprs.specs.State.{State, Reader, or_done, ◌>>=◌}
use Rattle.std.specs.Prelude.{option_map}
use Rattle.f77_exprs.specs.Grammar.{Between, comma, more_by, items_by}
use Rattle.roundtrip_programs.proofs.Statements.Readings.{After, Sound, seq, weaken}
use Rattle.roundtrip_programs.specs.Statements.Formed.{Each, Filled}

pub each-push : {A : Type 0} (P : A → Type 0) (xs : List A) (x : A) → Each P xs → P x → Each P (xs ++ x ∷ [])
each-push P [] x h p = record { first = p; others = tt }
each-push P (y ∷ ys) x h p = record { first = h.first; others = each-push P ys x h.others p }

pub filled-push : {A : Type 0} (P : A → Type 0) (xs : List A) (x : A) → Filled P xs → P x → Filled P (xs ++ x ∷ [])
filled-push P [] x h p = absurd h
filled-push P (y ∷ ys) x h p = record { first = h.first; others = each-push P ys x h.others p }

-- what stands between items leaves the notes as they were
abbrev pub Kept : Option State → Notes → Type 0
Kept None k = Unit {0}
Kept (Some t) k = t.notes ≡ k

abbrev pub Keeps : Between → Type 0
Keeps between = (s : State) → Kept (between s) s.notes

between_at : {B : Type 0} (o : Option State) (b : B) (s : State) (go : State → Option (B × State)) (Q : B → Type 0) → Kept o s.notes → Q b → ((t : State) → After (go t) t.notes Q)
    → After (or_done b s o go) s.notes Q
between_at None b s go Q k q g = λ c. (c, q)
between_at (Some t) b s go Q k q g = subst (λ (m : Notes). After (go t) m Q) k (g t)

-- L holds of a longer list too
abbrev pub Pushes : {A : Type 0} → (List A → Type 0) → (A → Type 0) → Type 0
Pushes L P = (xs : List _) (x : _) → L xs → P x → L (xs ++ x ∷ [])

pub more_by-sound : {A : Type 0} (between : Between) (one : Reader A) (P : A → Type 0) (L : List A → Type 0) → Keeps between → Sound one P → Pushes L P
    → (n : ℕ) (found : List A) (s : State) → After (more_by between one n found s) s.notes (λ xs. L found → L xs)
unfolding more_by
more_by-sound between one P L k h push zero found s = λ c. (c, λ l. l)
more_by-sound between one P L k h push (suc n) found s =
    between_at (between s) found s (λ t. one t >>= λ r. more_by between one n (found ++ r.0 ∷ []) r.1) (λ xs. L found → L xs) (k s) (λ l. l)
    (λ t. seq (one t) (λ r. more_by between one n (found ++ r.0 ∷ []) r.1) t.notes P (λ xs. L found → L xs) (h t)
    (λ r. weaken (more_by between one n (found ++ r.0 ∷ []) r.1) r.1.notes (λ xs. L (found ++ r.0 ∷ []) → L xs) (λ xs. P r.0 → (L found → L xs))
    (more_by-sound between one P L k h push n (found ++ r.0 ∷ []) r.1) (λ xs f p l. f (push found r.0 l p))))

pub items_by-sound : {A : Type 0} (between : Between) (one : Reader A) (P : A → Type 0) → Keeps between → Sound one P → Sound (items_by between one) (Filled P)
unfolding items_by
items_by-sound between one P k h s =
    seq (one s) (λ r. more_by between one (length r.1.rest) (r.0 ∷ []) r.1) s.notes P (Filled P) (h s)
    (λ r. weaken (more_by between one (length r.1.rest) (r.0 ∷ []) r.1) r.1.notes (λ xs. Filled P (r.0 ∷ []) → Filled P xs) (λ xs. P r.0 → Filled P xs)
    (more_by-sound between one P (Filled P) k h (filled-push P) (length r.1.rest) (r.0 ∷ []) r.1) (λ xs f p. f (record { first = p; others = tt })))

kept_at : (o : Option (List ℕ)) (s : State) → Kept (option_map (λ r. record s { rest = r }) o) s.notes
kept_at None s = tt
kept_at (Some r) s = refl

pub comma_keeps : Keeps comma
comma_keeps s = kept_at (after (44 ∷ []) s.rest) s
