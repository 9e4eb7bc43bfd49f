-- What a reading gives where it was given without a cause to refuse it.
use Rattle.std.proofs.Common.{ℕ, List, Option, Some, None}
use Rattle.std.specs.Prelude.{option_map}
use Rattle.f77_exprs.specs.declared.at.Notes.{Notes}
use Rattle.f77_exprs.specs.Words.{after}
use Rattle.f77_exprs.specs.State.{State, Reader, parse_word, or_done, or_else, ◌>>=◌}
use Rattle.roundtrip_programs.specs.Statements.Follows.{IsClean}

-- where the notes at the end are clean, those before were, and the value is as P says
abbrev pub After : {A : Type 0} → Option (A × State) → Notes → (A → Type 0) → Type 0
After None k P = Unit {0}
After (Some r) k P = IsClean r.1.notes → (IsClean k × P r.0)

-- the same of a reader at each place
abbrev pub Sound : {A : Type 0} → Reader A → (A → Type 0) → Type 0
Sound R P = (s : State) → After (R s) s.notes P

join : {B : Type 0} (o : Option (B × State)) (k m : Notes) (P : Type 0) (Q : B → Type 0) → After o m (λ b. P → Q b) → (IsClean m → (IsClean k × P)) → After o k Q
join None k m P Q h g = tt
join (Some r) k m P Q h g = λ c. let p = h c in let q = g p.0 in (q.0, p.1 q.1)

-- one reader behind another, whose value it may rest on
pub seq : {A B : Type 0} (o : Option (A × State)) (f : A × State → Option (B × State)) (k : Notes) (P : A → Type 0) (Q : B → Type 0)
    → After o k P → ((r : A × State) → After (f r) r.1.notes (λ b. P r.0 → Q b)) → After (o >>= f) k Q
seq None f k P Q h g = tt
seq (Some r) f k P Q h g = join (f r) k r.1.notes (P r.0) Q (g r) h

word_at : {B : Type 0} (o : Option (List ℕ)) (s : State) (f : State → Option (B × State)) (Q : B → Type 0) → ((r : List ℕ) → After (f (record s { rest = r })) s.notes Q)
    → After (option_map (λ r. record s { rest = r }) o >>= f) s.notes Q
word_at None s f Q g = tt
word_at (Some r) s f Q g = g r

-- a reader behind a word
pub then_word : {B : Type 0} (w : List ℕ) (s : State) (f : State → Option (B × State)) (Q : B → Type 0) → ((r : List ℕ) → After (f (record s { rest = r })) s.notes Q)
    → After (parse_word w s >>= f) s.notes Q
then_word w s f Q g = word_at (after w s.rest) s f Q g

else_at : {B : Type 0} (o : Option (List ℕ)) (s : State) (f : State → Option (B × State)) (other : Option (B × State)) (Q : B → Type 0)
    → ((r : List ℕ) → After (f (record s { rest = r })) s.notes Q) → After other s.notes Q → After (or_else (option_map (λ r. record s { rest = r }) o) f other) s.notes Q
else_at None s f other Q g h = h
else_at (Some r) s f other Q g h = g r

-- a reader behind a word, or another one
pub else_word : {B : Type 0} (w : List ℕ) (s : State) (f : State → Option (B × State)) (other : Option (B × State)) (Q : B → Type 0)
    → ((r : List ℕ) → After (f (record s { rest = r })) s.notes Q) → After other s.notes Q → After (or_else (parse_word w s) f other) s.notes Q
else_word w s f other Q g h = else_at (after w s.rest) s f other Q g h

done_at : {B : Type 0} (o : Option (List ℕ)) (b : B) (s : State) (f : State → Option (B × State)) (Q : B → Type 0)
    → Q b → ((r : List ℕ) → After (f (record s { rest = r })) s.notes Q) → After (or_done b s (option_map (λ r. record s { rest = r }) o) f) s.notes Q
done_at None b s f Q q g = λ c. (c, q)
done_at (Some r) b s f Q q g = g r

-- what was read, or what a reader behind a word makes of it
pub done_word : {B : Type 0} (w : List ℕ) (b : B) (s : State) (f : State → Option (B × State)) (Q : B → Type 0)
    → Q b → ((r : List ℕ) → After (f (record s { rest = r })) s.notes Q) → After (or_done b s (parse_word w s) f) s.notes Q
done_word w b s f Q q g = done_at (after w s.rest) b s f Q q g

pub weaken : {A : Type 0} (o : Option (A × State)) (k : Notes) (P Q : A → Type 0) → After o k P → ((a : A) → P a → Q a) → After o k Q
weaken None k P Q h f = tt
weaken (Some r) k P Q h f = λ c. let p = h c in (p.0, f r.0 p.1)
