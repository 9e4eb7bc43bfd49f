-- A reader whose bytes are known, read as long as they are the beginning of others.
use Rattle.std.proofs.Common.{◌≡◌, ◌≢◌, ◌↔◌, List, ℕ, [], ◌++◌, false, IsTrue, Option, Some, None, IfSome, refl, ap, sym, ◌∙◌, append_assoc}
use Rattle.std.proofs.lemmas.List.{append_cancel_left}
use Rattle.std.proofs.KnownBytes.{Consumes-nil, Consumes-trans}
use Rattle.std.specs.Io.KnownBytes.{Consumes}

-- what was read is the front of the others, and this is the rest of them
pub record ReadSoFar (before now : Option (List ℕ)) (bytes rest : List ℕ) : Type 0 where
  pub front : List ℕ
  pub taken : Consumes before now front
  pub splits : bytes ≡ front ++ rest

pub so_far-start : (before : Option (List ℕ)) (bytes : List ℕ) → ReadSoFar before before bytes bytes
so_far-start before bytes = record { front = []; taken = Consumes-nil before; splits = refl }

pub so_far-more : (before now after : Option (List ℕ)) (bytes rest piece more : List ℕ) → ReadSoFar before now bytes rest → Consumes now after piece → rest ≡ piece ++ more → ReadSoFar before after bytes more
so_far-more before now after bytes rest piece more r took e = record {
  front = r.front ++ piece;
  taken = Consumes-trans before now after r.front piece r.taken took;
  splits = r.splits ∙ ap (λ x. r.front ++ x) e ∙ sym (append_assoc r.front piece more);
}

differs_at : (left : List ℕ) (after : Option (List ℕ)) (bytes rest front piece : List ℕ) → Consumes (Some left) after (front ++ piece) → bytes ≡ front ++ rest → ((more : List ℕ) → rest ≢ piece ++ more)
    → IsTrue false ↔ (left ≡ bytes)
differs_at left None bytes rest front piece all splits differs = absurd all
differs_at left (Some end) bytes rest front piece all splits differs = (
  λ is. cc,
  λ e. absurd (differs end (append_cancel_left front rest (piece ++ end) (sym splits ∙ sym e ∙ all ∙ append_assoc front piece end))),
)

-- a piece was read that the rest does not begin with
pub so_far-differs : (before now after : Option (List ℕ)) (bytes rest piece : List ℕ) → ReadSoFar before now bytes rest → Consumes now after piece → ((more : List ℕ) → rest ≢ piece ++ more)
    → IfSome before (λ left. IsTrue false ↔ (left ≡ bytes))
so_far-differs None now after bytes rest piece r took differs = tt
so_far-differs (Some left) now after bytes rest piece r took differs =
    differs_at left after bytes rest r.front piece (Consumes-trans (Some left) now after r.front piece r.taken took) r.splits differs
