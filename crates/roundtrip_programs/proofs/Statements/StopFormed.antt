-- What STOP shows: what is read as it is one to five digits or a character constant.
use Rattle.std.proofs.Common.{◌≡◌, ℕ, List, [], ◌∷◌, ◌++◌, length, refl, ap, ◌∙◌, sym, subst, append_assoc, Option, Some, None, Bool, true, false, if◌then◌else◌}
use Rattle.std.specs.Prelude.{codes, nat_eq, nat_le, ◌&&◌}
use Rattle.std.specs.Char.{is_ascii_digit}
use Rattle.std.proofs.lemmas.Bool.{leb-true, eqb-true, and_parts}
use Rattle.f77_exprs.specs.declared.at.Notes.{Notes}
use Rattle.f77_exprs.specs.Words.{before}
use Rattle.f77_exprs.specs.State.{State, or_else, ◌>>=◌}
use Rattle.f77_exprs.specs.Lexical.{digit_first, skip_digits, constant, with_front}
use Rattle.f77_statements.specs.Executables.{five_digits, message, stop_text}
use Rattle.f77_printer.specs.ExprText.{doubled}
use Rattle.roundtrip_programs.specs.Statements.Phrased.{IsMessage, digits, MaybeMessage}
use Rattle.roundtrip_programs.specs.Statements.Phrased as phrased
use Rattle.roundtrip_programs.specs.Statements.Follows.{standing}
use Rattle.roundtrip_programs.proofs.Statements.Readings.{After, Sound}
use Rattle.roundtrip_programs.proofs.Statements.Names.{before-append}
use Rattle.fx_lists.proofs.Lists.{split_at}

-- ---- digits

leading : List ℕ → List ℕ
leading [] = []
leading (c ∷ cs) = if is_ascii_digit c then c ∷ leading cs else []

leading-split : (t : List ℕ) → leading t ++ skip_digits t ≡ t
unfolding leading
leading-split [] = refl
leading-split (c ∷ cs) = split_at (is_ascii_digit c) c cs (leading cs) (skip_digits cs) (leading-split cs)

whole_at : (b : Bool) (c : ℕ) (f : List ℕ) → is_ascii_digit c ≡ b → skip_digits f ≡ [] → skip_digits (if b then c ∷ f else []) ≡ []
whole_at true c f e h = rw e h
whole_at false c f e h = refl

leading-whole : (t : List ℕ) → skip_digits (leading t) ≡ []
unfolding leading
leading-whole [] = refl
leading-whole (c ∷ cs) = whole_at (is_ascii_digit c) c (leading cs) refl (leading-whole cs)

leading-first : (t : List ℕ) → digit_first t ≡ true → digit_first (leading t) ≡ true
unfolding leading
leading-first [] h = h
leading-first (c ∷ cs) h = rw h h

before_leading : (t : List ℕ) → before t (skip_digits t) ≡ leading t
before_leading t = subst (λ (x : List ℕ). before x (skip_digits t) ≡ leading t) (leading-split t) (before-append (leading t) (skip_digits t))

five_at : (b : Bool) (t n : List ℕ) (k : Notes) → (digit_first t && nat_le (length n) 5) ≡ b → n ≡ leading t
    → After (if b then Some (Some n, standing (skip_digits t) k) else None) k MaybeMessage
five_at false t n k h e = tt
five_at true t n k h e = λ c.
    let p = and_parts (digit_first t) (nat_le (length n) 5) h in
    (c, digits n (rw e (leading-first t p.0)) (rw e (leading-whole t)) (leb-true (length n) 5 p.1))

five_formed : (t : List ℕ) (k : Notes) → After (five_digits (standing t k)) k MaybeMessage
unfolding five_digits
five_formed t k = five_at (digit_first t && nat_le (length (before t (skip_digits t))) 5) t (before t (skip_digits t)) k refl (before_leading t)

-- ---- a character constant

-- the text is the doubled constant, an apostrophe and what is left
abbrev pub Splits : List ℕ → Option (List ℕ × List ℕ) → Type 0
Splits t None = Unit {0}
Splits t (Some r) = t ≡ doubled r.0 ++ (39 ∷ r.1)

splits_one : (b : Bool) (c : ℕ) → nat_eq c 39 ≡ b → Splits (c ∷ []) (if b then Some ([], []) else None)
splits_one true c e = let f : c ≡ 39 = eqb-true c 39 e in ap (λ (x : ℕ). x ∷ []) f
splits_one false c e = tt

splits_double : (c d : ℕ) (cs : List ℕ) (o : Option (List ℕ × List ℕ)) → c ≡ 39 → d ≡ 39 → Splits cs o → Splits (c ∷ d ∷ cs) (with_front (39 ∷ []) o)
splits_double c d cs None e f h = tt
splits_double c d cs (Some r) e f h = rw (e, f) (ap (λ (x : List ℕ). 39 ∷ 39 ∷ x) h)

splits_plain : (c : ℕ) (cs : List ℕ) (o : Option (List ℕ × List ℕ)) → nat_eq c 39 ≡ false → Splits cs o → Splits (c ∷ cs) (with_front (c ∷ []) o)
splits_plain c cs None e h = tt
splits_plain c cs (Some r) e h = rw e (ap (λ (x : List ℕ). c ∷ x) h)

splits_two : (a b : Bool) (c d : ℕ) (cs : List ℕ) → nat_eq c 39 ≡ a → nat_eq d 39 ≡ b → Splits cs (constant cs) → Splits (d ∷ cs) (constant (d ∷ cs))
    → Splits (c ∷ d ∷ cs) (if a then (if b then with_front (39 ∷ []) (constant cs) else Some ([], d ∷ cs)) else with_front (c ∷ []) (constant (d ∷ cs)))
splits_two true true c d cs e f h g = splits_double c d cs (constant cs) (eqb-true c 39 e) (eqb-true d 39 f) h
splits_two true false c d cs e f h g = ap (λ (x : ℕ). x ∷ d ∷ cs) (eqb-true c 39 e)
splits_two false b c d cs e f h g = splits_plain c (d ∷ cs) (constant (d ∷ cs)) e g

pub constant_splits : (t : List ℕ) → Splits t (constant t)
constant_splits [] = tt
constant_splits (c ∷ []) = splits_one (nat_eq c 39) c refl
constant_splits (c ∷ d ∷ cs) = splits_two (nat_eq c 39) (nat_eq d 39) c d cs refl refl (constant_splits cs) (constant_splits (d ∷ cs))

before_end : (c r : List ℕ) → before (39 ∷ (doubled c ++ (39 ∷ r))) r ≡ 39 ∷ (doubled c ++ (39 ∷ []))
before_end c r = ap (λ (x : List ℕ). before (39 ∷ x) r) (sym (append_assoc (doubled c) (39 ∷ []) r)) ∙ before-append (39 ∷ (doubled c ++ (39 ∷ []))) r

message_at : (o : Option (List ℕ × List ℕ)) (t : List ℕ) (k : Notes) → Splits t o → After (o >>= λ c. Some (Some (before (39 ∷ t) c.1), standing c.1 k)) k MaybeMessage
message_at None t k h = tt
message_at (Some r) t k h = λ c.
    (c, subst IsMessage (sym (ap (λ (x : List ℕ). before (39 ∷ x) r.1) h ∙ before_end r.0 r.1)) (phrased.constant r.0))

apostrophe_at : (b : Bool) (c : ℕ) (cs : List ℕ) (k : Notes) → nat_eq c 39 ≡ b
    → After (or_else (if b then Some (standing cs k) else None) (message (c ∷ cs)) (five_digits (standing (c ∷ cs) k))) k MaybeMessage
unfolding message
apostrophe_at true c cs k e =
    let f : c ≡ 39 = eqb-true c 39 e in
    subst (λ (x : ℕ). After (constant cs >>= λ r. Some (Some (before (x ∷ cs) r.1), standing r.1 k)) k MaybeMessage) (sym f) (message_at (constant cs) cs k (constant_splits cs))
apostrophe_at false c cs k e = five_formed (c ∷ cs) k

taken : (b : Bool) (cs : List ℕ) (k : Notes) → Rattle.std.specs.Prelude.option_map (λ (r : List ℕ). standing r k) (if b then Some cs else None) ≡ (if b then Some (standing cs k) else None)
taken true cs k = refl
taken false cs k = refl

text_at : (t : List ℕ) (k : Notes) → After (stop_text (standing t k)) k MaybeMessage
unfolding stop_text
text_at [] k = λ c. (c, tt)
text_at (c ∷ cs) k =
    subst (λ (o : Option State). After (or_else o (message (c ∷ cs)) (five_digits (standing (c ∷ cs) k))) k MaybeMessage) (sym (taken (nat_eq c 39) cs k)) (apostrophe_at (nat_eq c 39) c cs k refl)

pub message-formed : Sound stop_text MaybeMessage
message-formed s = text_at s.rest s.notes
