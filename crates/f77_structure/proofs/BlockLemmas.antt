-- The open blocks, one after another from the innermost.
use Rattle.std.proofs.Common.{◌≡◌, ℕ, ◌<◌, true, false, List, [], ◌∷◌, length, Some, None, refl, ap, sym, ◌∙◌, arith}
use Rattle.f77_structure.specs.declared.open.Sought.{Sought}
use Rattle.f77_structure.specs.declared.open.Open.{Open}
use Rattle.f77_structure.specs.declared.blocks.Blocks.{Blocks}
use Rattle.f77_structure.specs.Lists.{first_of}
use Rattle.f77_structure.specs.Opens.{ends_at, fits}
use Rattle.f77_structure.specs.Blocks.{left_from, left_one, ended_by, refuse_unclosed, down_to}
use Rattle.fx_lists.proofs.Options.{some_is as same}

pub more_than_none : {A : Type 0} (xs : List A) (x : A) → first_of xs ≡ Some x → 0 < length xs
more_than_none [] x e = cc
more_than_none (y ∷ ys) x e = omega arith

pub ended_by-none : (l : ℕ) (os : List Open) (b : Blocks) → first_of os ≡ None → ended_by l os b ≡ b
ended_by-none l [] b e = refl
ended_by-none l (o ∷ os) b e = cc

pub ended_by-stay : (l : ℕ) (os : List Open) (b : Blocks) (o : Open) → first_of os ≡ Some o → ends_at l o.kind ≡ false → ended_by l os b ≡ b
ended_by-stay l [] b o e h = cc
ended_by-stay l (p ∷ os) b o e h =
    let t : ends_at l p.kind ≡ false = ap (λ (q : Open). ends_at l q.kind) (same p o e) ∙ h in
    rw t refl

pub ended_by-more : (l : ℕ) (os : List Open) (b : Blocks) (o : Open) → first_of os ≡ Some o → ends_at l o.kind ≡ true → ended_by l (left_from os b).stack (left_from os b) ≡ ended_by l os b
ended_by-more l [] b o e h = cc
ended_by-more l (p ∷ os) b o e h =
    let t : ends_at l p.kind ≡ true = ap (λ (q : Open). ends_at l q.kind) (same p o e) ∙ h in
    rw t refl

pub ruleset ending = (more_than_none, ended_by-none, ended_by-stay, ended_by-more)

pub down_to-none : (s : Sought) (os : List Open) (b : Blocks) → first_of os ≡ None → down_to s os b ≡ b
down_to-none s [] b e = refl
down_to-none s (o ∷ os) b e = cc

pub down_to-stay : (s : Sought) (os : List Open) (b : Blocks) (o : Open) → first_of os ≡ Some o → fits s o.kind ≡ true → down_to s os b ≡ b
down_to-stay s [] b o e h = cc
down_to-stay s (p ∷ os) b o e h =
    let t : fits s p.kind ≡ true = ap (λ (q : Open). fits s q.kind) (same p o e) ∙ h in
    rw t refl

-- the innermost block is left unclosed
abbrev pub lost : Open → Blocks → Blocks
lost o b = record b { found = refuse_unclosed o b.found }

pub down_to-more : (s : Sought) (os : List Open) (b : Blocks) (o : Open) → first_of os ≡ Some o → fits s o.kind ≡ false → down_to s (left_from os (lost o b)).stack (left_from os (lost o b)) ≡ down_to s os b
down_to-more s [] b o e h = cc
down_to-more s (p ∷ os) b o e h =
    let t : fits s p.kind ≡ false = ap (λ (q : Open). fits s q.kind) (same p o e) ∙ h in
    let u : lost o b ≡ lost p b = ap (λ q. lost q b) (sym (same p o e)) in
    rw t (ap (λ (c : Blocks). down_to s os (left_one p os c)) u)

pub ruleset descending = (more_than_none, down_to-none, down_to-stay, down_to-more)
