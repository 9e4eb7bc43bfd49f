-- The runs of a name say what the pieces of DATA say.
use Rattle.std.proofs.Common.{◌≡◌, ℕ, zero, suc, ◌+◌, ◌<◌, ◌≤◌, Bool, true, false, ℤ, List, [], ◌∷◌, ◌++◌, take, drop, reverse, Option, Some, None, ◌⊎◌, inl, inr, refl, sym, ap, ◌∙◌, subst, arith}
use Rattle.std.specs.Prelude.{if◌then◌else◌, nat_eq, nat_le, nat_lt, ◌&&◌, insert}
use Rattle.std.specs.Ordering.{int_eq}
use Rattle.std.proofs.lemmas.Bool.{and_parts, and_from, eqb-true, eq-eqb, cases_lt, leb-true, ltb-true, le-leb, lt-ltb}
use Rattle.std.proofs.lemmas.Int.{ints}
use Rattle.std.proofs.lemmas.List.{reverse-append}
use Rattle.f77_ast.specs.declared.constant.Constant.{Constant}
use Rattle.f77_ast.specs.Constants.{number_of}
use Rattle.f77_ast.specs.declared.symbol.InitialRun.{InitialRun}
use Rattle.f77_meaning.specs.Modules.{value_from}
use Rattle.storage_data.specs.declared.deals.Piece.{Piece}
use Rattle.storage_data.specs.Runs.{place_before, run_of, with_value, with_piece, pieces_for, is_next, one_run, behind, all_behind, initial_of}
use Rattle.fx_lists.proofs.Numbers.{is_number as same_int}

-- ---- runs

-- a run gives a unit a value
abbrev pub GivesOne : InitialRun → ℕ → ℤ → Type 0
GivesOne r k v = (r.offset ≤ k) × (k < r.offset + r.count) × (r.value ≡ v)

-- some run does
abbrev pub Gives : List InitialRun → ℕ → ℤ → Type 0
Gives [] k v = ⊥
Gives (r ∷ rs) k v = GivesOne r k v ⊎ Gives rs k v

module _ (k : ℕ) (v : ℤ) where
  gives_left : (xs ys : List InitialRun) → Gives xs k v → Gives (xs ++ ys) k v
  gives_left [] ys h = absurd h
  gives_left (x ∷ xs) ys (inl h) = inl h
  gives_left (x ∷ xs) ys (inr h) = inr (gives_left xs ys h)

  gives_right : (xs ys : List InitialRun) → Gives ys k v → Gives (xs ++ ys) k v
  gives_right [] ys h = h
  gives_right (x ∷ xs) ys h = inr (gives_right xs ys h)

  gives_either : (xs ys : List InitialRun) → Gives (xs ++ ys) k v → Gives xs k v ⊎ Gives ys k v
  gives_either [] ys h = inr h
  gives_either (x ∷ xs) ys (inl h) = inl (inl h)
  gives_either (x ∷ xs) ys (inr h) = elim (gives_either xs ys h) [ inl a ↦ inl (inr a) | inr b ↦ inr b ]

  split_at : (i : ℕ) (rs : List InitialRun) → Gives rs k v → Gives (take i rs) k v ⊎ Gives (drop i rs) k v
  split_at zero rs h = inr h
  split_at (suc i) [] h = absurd h
  split_at (suc i) (r ∷ rs) (inl h) = inl (inl h)
  split_at (suc i) (r ∷ rs) (inr h) = elim (split_at i rs h) [ inl a ↦ inl (inr a) | inr b ↦ inr b ]

  taken : (i : ℕ) (rs : List InitialRun) → Gives (take i rs) k v → Gives rs k v
  taken zero rs h = absurd h
  taken (suc i) [] h = absurd h
  taken (suc i) (r ∷ rs) (inl h) = inl h
  taken (suc i) (r ∷ rs) (inr h) = inr (taken i rs h)

  dropped : (i : ℕ) (rs : List InitialRun) → Gives (drop i rs) k v → Gives rs k v
  dropped zero rs h = h
  dropped (suc i) [] h = absurd h
  dropped (suc i) (r ∷ rs) h = inr (dropped i rs h)

  -- one run more
  inserted : (rs : List InitialRun) (i : ℕ) (r : InitialRun) → Gives (r ∷ rs) k v → Gives (insert rs i r) k v
  inserted rs i r (inl h) = gives_right (take i rs) (r ∷ drop i rs) (inl h)
  inserted rs i r (inr h) = elim (split_at i rs h) [ inl a ↦ gives_left (take i rs) (r ∷ drop i rs) a | inr b ↦ gives_right (take i rs) (r ∷ drop i rs) (inr b) ]

  inserted_back : (rs : List InitialRun) (i : ℕ) (r : InitialRun) → Gives (insert rs i r) k v → Gives (r ∷ rs) k v
  inserted_back rs i r h = go (gives_either (take i rs) (r ∷ drop i rs) h)
    where
      go : Gives (take i rs) k v ⊎ Gives (r ∷ drop i rs) k v → Gives (r ∷ rs) k v
      go (inl a) = inr (taken i rs a)
      go (inr (inl b)) = inl b
      go (inr (inr c)) = inr (dropped i rs c)

  turned : (rs : List InitialRun) → Gives rs k v → Gives (reverse rs) k v
  turned [] h = absurd h
  turned (r ∷ rs) h = subst (λ z. Gives z k v) (sym (reverse-append (r ∷ []) rs)) (go h (turned rs))
    where
      go : GivesOne r k v ⊎ Gives rs k v → (Gives rs k v → Gives (reverse rs) k v) → Gives (reverse rs ++ r ∷ []) k v
      go (inl a) ih = gives_right (reverse rs) (r ∷ []) (inl a)
      go (inr b) ih = gives_left (reverse rs) (r ∷ []) (ih b)

  turned_back : (rs : List InitialRun) → Gives (reverse rs) k v → Gives rs k v
  turned_back [] h = absurd h
  turned_back (r ∷ rs) h = go (gives_either (reverse rs) (r ∷ []) (subst (λ z. Gives z k v) (reverse-append (r ∷ []) rs) h)) (turned_back rs)
    where
      go : Gives (reverse rs) k v ⊎ Gives (r ∷ []) k v → (Gives (reverse rs) k v → Gives rs k v) → Gives (r ∷ rs) k v
      go (inl a) ih = inr (ih a)
      go (inr (inl b)) ih = inl b
      go (inr (inr c)) ih = absurd c

  -- ---- neighbours with one value

  record Next (q r : InitialRun) : Type 0 where
    at : q.offset + q.count ≡ r.offset
    value : q.value ≡ r.value

  next_of : (q r : InitialRun) → is_next q r ≡ true → Next q r
  next_of q r h = let p = and_parts (nat_eq (q.offset + q.count) r.offset) (int_eq q.value r.value) h in record { at = eqb-true (q.offset + q.count) r.offset p.0; value = same_int q.value r.value p.1 }

  behind_gives : (r : InitialRun) (qs : List InitialRun) → Gives (r ∷ qs) k v → Gives (behind r qs) k v
  behind_gives r [] h = h
  behind_gives r (q ∷ qs) h = go (is_next q r) refl h
    where
      go : (b : Bool) → is_next q r ≡ b → Gives (r ∷ q ∷ qs) k v → Gives (if b then one_run q r ∷ qs else r ∷ q ∷ qs) k v
      go false e h = h
      go true e (inl a) = let n = next_of q r e in let at = n.at in let low = a.0 in let high = a.1 in inl (omega (arith, at, low), omega (arith, at, high), n.value ∙ a.2)
      go true e (inr (inl b)) = let high = b.1 in inl (b.0, omega (arith, high), b.2)
      go true e (inr (inr c)) = inr c

  behind_back : (r : InitialRun) (qs : List InitialRun) → Gives (behind r qs) k v → Gives (r ∷ qs) k v
  behind_back r [] h = h
  behind_back r (q ∷ qs) h = go (is_next q r) refl h
    where
      which : Next q r → GivesOne (one_run q r) k v → (k < q.offset + q.count) ⊎ (q.offset + q.count ≤ k) → Gives (r ∷ q ∷ qs) k v
      which n a (inl l) = inr (inl (a.0, l, a.2))
      which n a (inr m) = let at = n.at in let high = a.1 in inl (omega (arith, at, m), omega (arith, at, high), sym n.value ∙ a.2)

      go : (b : Bool) → is_next q r ≡ b → Gives (if b then one_run q r ∷ qs else r ∷ q ∷ qs) k v → Gives (r ∷ q ∷ qs) k v
      go false e h = h
      go true e (inl a) = which (next_of q r e) a (cases_lt k (q.offset + q.count))
      go true e (inr c) = inr (inr c)

  all_gives : (rs qs : List InitialRun) → Gives rs k v ⊎ Gives qs k v → Gives (all_behind rs qs) k v
  all_gives [] qs (inl h) = absurd h
  all_gives [] qs (inr h) = h
  all_gives (r ∷ rs) qs (inl (inl h)) = all_gives rs (behind r qs) (inr (behind_gives r qs (inl h)))
  all_gives (r ∷ rs) qs (inl (inr h)) = all_gives rs (behind r qs) (inl h)
  all_gives (r ∷ rs) qs (inr h) = all_gives rs (behind r qs) (inr (behind_gives r qs (inr h)))

  all_back : (rs qs : List InitialRun) → Gives (all_behind rs qs) k v → Gives rs k v ⊎ Gives qs k v
  all_back [] qs h = inr h
  all_back (r ∷ rs) qs h = go (all_back rs (behind r qs) h)
    where
      go : Gives rs k v ⊎ Gives (behind r qs) k v → Gives (r ∷ rs) k v ⊎ Gives qs k v
      go (inl a) = inl (inr a)
      go (inr b) = elim (behind_back r qs b) [ inl c ↦ inl (inl c) | inr d ↦ inr d ]

  -- ---- pieces

  -- a piece gives a unit of the name at a place a value
  abbrev pub PieceGives : ℕ → Piece → Type 0
  PieceGives n p = (c : Constant) × (p.place ≡ n) × (p.value ≡ Some c) × (p.offset ≤ k) × (k < p.offset + p.count) × (number_of c ≡ v)

  abbrev pub PiecesGive : ℕ → List Piece → Type 0
  PiecesGive n [] = ⊥
  PiecesGive n (p ∷ ps) = PieceGives n p ⊎ PiecesGive n ps

  piece_gives : (n : ℕ) (p : Piece) (rs : List InitialRun) → PieceGives n p ⊎ Gives rs k v → Gives (with_piece n p rs) k v
  piece_gives n p rs h = go (nat_eq p.place n) refl p.value refl h
    where
      go : (b : Bool) → nat_eq p.place n ≡ b → (o : Option Constant) → p.value ≡ o → PieceGives n p ⊎ Gives rs k v → Gives (if b then with_value p o rs else rs) k v
      go true e (Some c) q (inl a) =
          let same : Some a.0 ≡ Some c = sym a.2 ∙ q in
          let value : number_of c ≡ v = (let one : a.0 ≡ c = cc in ap number_of (sym one) ∙ a.5) in
          inserted rs (place_before 0 (run_of p c) rs) (run_of p c) (inl (a.3, a.4, value))
      go true e (Some c) q (inr b) = inserted rs (place_before 0 (run_of p c) rs) (run_of p c) (inr b)
      go true e None q (inl a) = let z : Some a.0 ≡ None = sym a.2 ∙ q in cc
      go true e None q (inr b) = b
      go false e o q (inl a) = let z : true ≡ false = sym (eq-eqb p.place n a.1) ∙ e in cc
      go false e o q (inr b) = b

  piece_back : (n : ℕ) (p : Piece) (rs : List InitialRun) → Gives (with_piece n p rs) k v → PieceGives n p ⊎ Gives rs k v
  piece_back n p rs h = go (nat_eq p.place n) refl p.value refl h
    where
      from_run : (c : Constant) → nat_eq p.place n ≡ true → p.value ≡ Some c → Gives (run_of p c ∷ rs) k v → PieceGives n p ⊎ Gives rs k v
      from_run c e q (inl a) = inl (c, eqb-true p.place n e, q, a.0, a.1, a.2)
      from_run c e q (inr b) = inr b

      go : (b : Bool) → nat_eq p.place n ≡ b → (o : Option Constant) → p.value ≡ o → Gives (if b then with_value p o rs else rs) k v → PieceGives n p ⊎ Gives rs k v
      go true e (Some c) q h = from_run c e q (inserted_back rs (place_before 0 (run_of p c) rs) (run_of p c) h)
      go true e None q h = inr h
      go false e o q h = inr h

  pieces_give : (n : ℕ) (ps : List Piece) (rs : List InitialRun) → PiecesGive n ps ⊎ Gives rs k v → Gives (pieces_for n ps rs) k v
  pieces_give n [] rs (inl h) = absurd h
  pieces_give n [] rs (inr h) = h
  pieces_give n (p ∷ ps) rs (inl (inl h)) = pieces_give n ps (with_piece n p rs) (inr (piece_gives n p rs (inl h)))
  pieces_give n (p ∷ ps) rs (inl (inr h)) = pieces_give n ps (with_piece n p rs) (inl h)
  pieces_give n (p ∷ ps) rs (inr h) = pieces_give n ps (with_piece n p rs) (inr (piece_gives n p rs (inr h)))

  pieces_back : (n : ℕ) (ps : List Piece) (rs : List InitialRun) → Gives (pieces_for n ps rs) k v → PiecesGive n ps ⊎ Gives rs k v
  pieces_back n [] rs h = inr h
  pieces_back n (p ∷ ps) rs h = go (pieces_back n ps (with_piece n p rs) h)
    where
      go : PiecesGive n ps ⊎ Gives (with_piece n p rs) k v → PiecesGive n (p ∷ ps) ⊎ Gives rs k v
      go (inl a) = inl (inr a)
      go (inr b) = elim (piece_back n p rs b) [ inl c ↦ inl (inl c) | inr d ↦ inr d ]

  -- ---- the runs of a name

  pub initial_gives : (n : ℕ) (ps : List Piece) → PiecesGive n ps → Gives (initial_of true n ps) k v
  initial_gives n ps h = turned (all_behind (pieces_for n ps []) []) (all_gives (pieces_for n ps []) [] (inl (pieces_give n ps [] (inl h))))

  pub initial_back : (initial : Bool) (n : ℕ) (ps : List Piece) → Gives (initial_of initial n ps) k v → PiecesGive n ps
  initial_back false n ps h = absurd h
  initial_back true n ps h = go (all_back (pieces_for n ps []) [] (turned_back (all_behind (pieces_for n ps []) []) h))
    where
      pieces : PiecesGive n ps ⊎ Gives [] k v → PiecesGive n ps
      pieces (inl a) = a
      pieces (inr b) = absurd b

      go : Gives (pieces_for n ps []) k v ⊎ Gives [] k v → PiecesGive n ps
      go (inl a) = pieces (pieces_back n ps [] a)
      go (inr b) = absurd b

-- ---- the value of a unit

pub value_given : (rs : List InitialRun) (k : ℕ) (v : ℤ) → value_from 0 rs k ≡ Some v → Gives rs k v
value_given [] k v h = cc
value_given (r ∷ rs) k v h = go (nat_le (0 + r.offset) k && nat_lt k (0 + r.offset + r.count)) refl h (value_given rs k v)
  where
    go : (b : Bool) → (nat_le (0 + r.offset) k && nat_lt k (0 + r.offset + r.count)) ≡ b → (if b then Some r.value else value_from 0 rs k) ≡ Some v → (value_from 0 rs k ≡ Some v → Gives rs k v) → Gives (r ∷ rs) k v
    go true e q ih =
        let p = and_parts (nat_le (0 + r.offset) k) (nat_lt k (0 + r.offset + r.count)) e in
        let low = leb-true (0 + r.offset) k p.0 in
        let high = ltb-true k (0 + r.offset + r.count) p.1 in
        let same : r.value ≡ v = cc in
        inl (omega (arith, low), omega (arith, high), same)
    go false e q ih = inr (ih q)

pub given_value : (rs : List InitialRun) (k : ℕ) (v : ℤ) → Gives rs k v → ((w : ℤ) → Gives rs k w → w ≡ v) → value_from 0 rs k ≡ Some v
given_value rs k v h only = go (value_from 0 rs k) refl
  where
    none : (qs : List InitialRun) → Gives qs k v → value_from 0 qs k ≡ None → ⊥
    none [] g e = g
    none (r ∷ qs) g e = inner (nat_le (0 + r.offset) k && nat_lt k (0 + r.offset + r.count)) refl e g (none qs)
      where
        inner : (b : Bool) → (nat_le (0 + r.offset) k && nat_lt k (0 + r.offset + r.count)) ≡ b → (if b then Some r.value else value_from 0 qs k) ≡ None → Gives (r ∷ qs) k v → (Gives qs k v → value_from 0 qs k ≡ None → ⊥) → ⊥
        inner true e q g ih = cc
        inner false e q (inr g) ih = ih g q
        inner false e q (inl g) ih =
            let low = g.0 in
            let high = g.1 in
            let yes = and_from (nat_le (0 + r.offset) k) (nat_lt k (0 + r.offset + r.count)) (le-leb (0 + r.offset) k (omega (arith, low))) (lt-ltb k (0 + r.offset + r.count) (omega (arith, high))) in
            let z : true ≡ false = sym yes ∙ e in
            cc

    go : (o : Option ℤ) → value_from 0 rs k ≡ o → value_from 0 rs k ≡ Some v
    go None e = absurd (none rs h e)
    go (Some w) e = e ∙ ap Some (only w (value_given rs k w e))
