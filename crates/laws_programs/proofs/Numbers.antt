-- The numbers of the statements of the text go up by one, and so do those of hidden statements.
use Rattle.std.proofs.Common.{◌≡◌, inl, inr, ℕ, ◌+◌, ◌≤◌, Bool, true, false, List, [], ◌∷◌, sym, ap, subst, arith}
use Rattle.std.specs.Prelude.{not, if◌then◌else◌}
use Rattle.std.specs.List.{filter}
use Rattle.std.proofs.lemmas.Bool.Decides.{nat_tests}
use Rattle.f77_ast.specs.DeclTrees.{ModuleTree}
use Rattle.f77_ast.specs.Hidden.{is_hidden}
use Rattle.f77_ast.specs.StatementNumbers.{list_numbers, HasNumbers}
use Rattle.f77_parser.specs.Elaborated.{meant_in, hidden_in, elaborated}
use Rattle.roundtrip_programs.specs.ModuleTexts.Folded.{folded}
use Rattle.roundtrip_programs.specs.ModuleTexts.Numbered.{last_in, IsWell}
use Rattle.roundtrip_programs.proofs.ModuleTexts.ElaboratedNumbers.{Rows, rows-up, list-rows, elaborated_numbers}
use Rattle.laws_programs.specs.Programs.{GoUp, is_shown}

shown : (x n m : ℕ) → x ≡ n + 1 → n + 1 ≤ m → m ≤ 4096 → is_hidden x ≡ false
shown x n m e up few = grind (arith, nat_tests)

hidden : (x h : ℕ) → x ≡ 4097 + h → is_hidden x ≡ true
hidden x h e = grind (arith, nat_tests)

kept : (p : ℕ → Bool) (n x : ℕ) (xs : List ℕ) → p x ≡ true → x ≡ n → GoUp (n + 1) (filter p xs) → GoUp n (filter p (x ∷ xs))
kept p n x xs e s g = subst (λ c. GoUp n (if c then x ∷ filter p xs else filter p xs)) (sym e) (s, g)

left : (p : ℕ → Bool) (n x : ℕ) (xs : List ℕ) → p x ≡ false → GoUp n (filter p xs) → GoUp n (filter p (x ∷ xs))
left p n x xs e g = subst (λ c. GoUp n (if c then x ∷ filter p xs else filter p xs)) (sym e) g

text_go : (n h m k : ℕ) (xs : List ℕ) → m ≤ 4096 → Rows n h xs m k → GoUp (n + 1) (filter is_shown xs)
text_go n h m k [] few r = tt
text_go n h m k (x ∷ xs) few (inl r) = kept is_shown (n + 1) x xs (ap not (shown x n m r.0 (rows-up (n + 1) h m k xs r.1) few)) r.0 (text_go (n + 1) h m k xs few r.1)
text_go n h m k (x ∷ xs) few (inr r) = left is_shown (n + 1) x xs (ap not (hidden x h r.0)) (text_go n (h + 1) m k xs few r.1)

next : (h : ℕ) (xs : List ℕ) → GoUp (4097 + (h + 1)) xs → GoUp (4097 + h + 1) xs
next h xs g = subst (λ n. GoUp n xs) (omega arith) g

hidden_go : (n h m k : ℕ) (xs : List ℕ) → m ≤ 4096 → Rows n h xs m k → GoUp (4097 + h) (filter is_hidden xs)
hidden_go n h m k [] few r = tt
hidden_go n h m k (x ∷ xs) few (inl r) = left is_hidden (4097 + h) x xs (shown x n m r.0 (rows-up (n + 1) h m k xs r.1) few) (hidden_go (n + 1) h m k xs few r.1)
hidden_go n h m k (x ∷ xs) few (inr r) = kept is_hidden (4097 + h) x xs (hidden x h r.0) r.0 (next h (filter is_hidden xs) (hidden_go n (h + 1) m k xs few r.1))

-- ---- modules

module _ (m : ModuleTree) (w : IsWell m) where
  rows : Rows 0 0 (list_numbers m.body) (last_in 0 (folded m).body) (hidden_in (meant_in (folded m)) 0 (folded m).body)
  unfolding elaborated folded
  rows =
      subst (λ (x : ModuleTree). Rows 0 0 (list_numbers x.body) (last_in 0 (folded m).body) (hidden_in (meant_in (folded m)) 0 (folded m).body)) w.same
      (list-rows (meant_in (folded m)) 0 0 (folded m).body w.body w.whiles)

  pub text_numbers_go : GoUp 1 (filter is_shown (list_numbers m.body))
  text_numbers_go = text_go 0 0 (last_in 0 (folded m).body) (hidden_in (meant_in (folded m)) 0 (folded m).body) (list_numbers m.body) w.few rows

  pub hidden_numbers_go : GoUp 4097 (filter is_hidden (list_numbers m.body))
  hidden_numbers_go = hidden_go 0 0 (last_in 0 (folded m).body) (hidden_in (meant_in (folded m)) 0 (folded m).body) (list_numbers m.body) w.few rows

  -- each statement has a number of its own
  pub well_numbered : HasNumbers m.body
  unfolding elaborated folded
  well_numbered = subst (λ (x : ModuleTree). HasNumbers x.body) w.same (elaborated_numbers (meant_in (folded m)) (folded m).body w.body w.few w.whiles)
