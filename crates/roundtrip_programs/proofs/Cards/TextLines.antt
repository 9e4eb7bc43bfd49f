-- Lines that were written, each ended by LF, are those lines.
use Rattle.std.proofs.Common.{inl, inr, ◌⊎◌, ◌≡◌, ℕ, List, [], ◌∷◌, ◌++◌, map, refl, ap, sym, ◌∙◌, arith, append_assoc, true, false}
use Rattle.std.specs.Prelude.{◌&&◌, nat_eq, nat_le, codes}
use Rattle.std.specs.List.{list_all, list_any}
use Rattle.std.proofs.lemmas.Bool.{eqb-true, or_cases, eqb-false, ne_eqb, or_parts, or_from, and_parts, leb-true}
use Rattle.fixed_form.specs.Characters.{is_allowed}
use Rattle.fixed_form.specs.TextLines.{lines_of, without_returns, unless_return, text_lines}
use Rattle.f77_printer.specs.PageText.{lines_text}
use Rattle.roundtrip_programs.specs.Cards.Good.{AreComments}
use Rattle.roundtrip_programs.proofs.Cards.Rows.{AreRows, continuation}

-- no line feed stands in it, and no carriage return at its end
pub record IsWhole (l : List ℕ) : Type 0 where
  pub one_line : list_any (nat_eq 10) l ≡ false
  pub no_return : without_returns l ≡ l

abbrev pub AreWhole : List (List ℕ) → Type 0
AreWhole [] = Unit {0}
AreWhole (l ∷ ls) = record { first : IsWhole l; others : AreWhole ls }

lines_of-line : (l rest : List ℕ) → list_any (nat_eq 10) l ≡ false → lines_of (l ++ (10 ∷ rest)) ≡ l ∷ lines_of rest
lines_of-line [] rest h = refl
lines_of-line (c ∷ cs) rest h =
    let p = or_parts (nat_eq 10 c) (list_any (nat_eq 10) cs) h in
    let n = eqb-false 10 c p.0 in
    let e : nat_eq c 10 ≡ false = ne_eqb c 10 (λ q. n (sym q)) in
    let r : lines_of (cs ++ (10 ∷ rest)) ≡ cs ∷ lines_of rest = lines_of-line cs rest p.1 in
    rw (e, r)

pub text_lines-back : (ls : List (List ℕ)) → AreWhole ls → text_lines (lines_text ls) ≡ ls
text_lines-back [] h = refl
text_lines-back (l ∷ ls) h =
    ap text_lines (append_assoc l (codes "\n") (lines_text ls))
    ∙ ap (map without_returns) (lines_of-line l (lines_text ls) h.first.one_line)
    ∙ ap (λ (x : List ℕ). x ∷ text_lines (lines_text ls)) h.first.no_return
    ∙ ap (λ (x : List (List ℕ)). l ∷ x) (text_lines-back ls h.others)

pub whole-append : (ls ms : List (List ℕ)) → AreWhole ls → AreWhole ms → AreWhole (ls ++ ms)
whole-append [] ms h g = g
whole-append (l ∷ ls) ms h g = record { first = h.first; others = whole-append ls ms h.others g }

pub comments_whole : (ls : List (List ℕ)) → AreComments ls → AreWhole ls
comments_whole [] h = tt
comments_whole (l ∷ ls) h = record { first = record { one_line = h.first.one_line; no_return = h.first.no_return }; others = comments_whole ls h.others }

-- ---- lines of allowed characters

unless_other : (c : ℕ) (cs : List ℕ) → nat_eq c 13 ≡ false → unless_return c cs ≡ c ∷ cs
unless_other c [] h = rw h
unless_other c (d ∷ ds) h = refl

-- an allowed character is neither LF nor CR
pub record Harmless (c : ℕ) : Type 0 where
  pub feed : nat_eq 10 c ≡ false
  pub return : nat_eq c 13 ≡ false

pub harmless_by : (c : ℕ) → ((nat_le 32 c && nat_le c 126) ≡ true) ⊎ (nat_eq c 9 ≡ true) → Harmless c
harmless_by c (inl h) =
    let q = and_parts (nat_le 32 c) (nat_le c 126) h in
    let low = leb-true 32 c q.0 in
    record { feed = ne_eqb 10 c (λ e. omega arith); return = ne_eqb c 13 (λ e. omega arith) }
harmless_by c (inr h) =
    let e = eqb-true c 9 h in
    record { feed = ne_eqb 10 c (λ f. omega arith); return = ne_eqb c 13 (λ f. omega arith) }

pub allowed_whole : (l : List ℕ) → list_all is_allowed l ≡ true → IsWhole l
allowed_whole [] h = record { one_line = refl; no_return = refl }
allowed_whole (c ∷ cs) h =
    let p = and_parts (is_allowed c) (list_all is_allowed cs) h in
    let x = harmless_by c (or_cases (nat_le 32 c && nat_le c 126) (nat_eq c 9) p.0) in
    let w = allowed_whole cs p.1 in
    record {
      one_line = or_from (nat_eq 10 c) (list_any (nat_eq 10) cs) x.feed w.one_line;
      no_return = ap (unless_return c) w.no_return ∙ unless_other c cs x.return;
    }

pub continuations_whole : (rs : List (List ℕ)) → AreRows rs → AreWhole (map continuation rs)
continuations_whole [] h = tt
continuations_whole (r ∷ rs) h = record { first = allowed_whole (continuation r) h.first.allowed; others = continuations_whole rs h.others }
