-- The name of a symbol, by its number.
use Rattle.std.proofs.Common.{◌≡◌, ℕ, zero, suc, ◌-◌, Option, Some, None, List, [], ◌∷◌, ◌++◌, append-nil, refl, sym, ap, ◌∙◌, arith, false, if◌then◌else◌}
use Rattle.std.specs.Prelude.{slice_get, slice_index_or, nat_eq}
use Rattle.std.proofs.lemmas.Bool.{false_from_ne_true}
use Rattle.std.proofs.lemmas.Bool.Decides.{Decides-eqb}
use Rattle.system_text.specs.SystemText.{name_at}
use Rattle.f77_ast.specs.declared.symbol.Symbol.{Symbol}
use Rattle.f77_ast.specs.Index.{names_of}
use Rattle.f77_ast.specs.Shared.{numbered}

got_none : (ss : List Symbol) (k : ℕ) → slice_get ss k ≡ None → slice_index_or (names_of ss) k [] ≡ []
got_none [] k e = refl
got_none (s ∷ ss) zero e = cc
got_none (s ∷ ss) (suc k) e = got_none ss k e

got_some : (ss : List Symbol) (k : ℕ) (s : Symbol) → slice_get ss k ≡ Some s → slice_index_or (names_of ss) k [] ≡ s.name
got_some [] k s e = cc
got_some (t ∷ ss) zero s e = let f : t ≡ s = cc in ap (λ (u : Symbol). u.name) f
got_some (t ∷ ss) (suc k) s e = got_some ss k s e

numbered-suc : (ss : List Symbol) (k : ℕ) → numbered ss (suc k) ≡ slice_get ss k
numbered-suc ss k =
    let some : nat_eq (suc k) 0 ≡ false = false_from_ne_true (nat_eq (suc k) 0) (λ e. let z : suc k ≡ 0 = (Decides-eqb (suc k) 0).0 e in omega arith) in
    let same : suc k - 1 ≡ k = omega arith in
    ap (λ b. if b then None else slice_get ss (suc k - 1)) some ∙ ap (slice_get ss) same

pub name_none : (ss : List Symbol) (n : ℕ) → numbered ss n ≡ None → name_at (names_of ss) n ≡ []
name_none ss zero e = refl
name_none ss (suc k) e = got_none ss k (sym (numbered-suc ss k) ∙ e)

pub name_some : (ss : List Symbol) (n : ℕ) (s : Symbol) → numbered ss n ≡ Some s → name_at (names_of ss) n ≡ s.name
name_some ss zero s e = cc
name_some ss (suc k) s e = got_some ss k s (sym (numbered-suc ss k) ∙ e)

pub ruleset symbol_names = (name_none, name_some, append-nil)
