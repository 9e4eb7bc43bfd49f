-- Lists: items with commas between them are read as the list of what each is read as.
use Rattle.std.proofs.Common.{◌≡◌, ℕ, zero, suc, ◌≤◌, List, [], ◌∷◌, ◌++◌, length, refl, ap, ◌∙◌, sym, arith, append_assoc, append-nil, length-append, Option, Some, None}
use Rattle.f77_exprs.specs.declared.at.Notes.{Notes}
use Rattle.f77_exprs.specs.State.{State, Reader, or_done, ◌>>=◌}
use Rattle.f77_exprs.specs.Grammar.{Between, more_by, items_by}
use Rattle.f77_printer.specs.DeclText.{others_by, joined_by}
use Rattle.roundtrip_programs.specs.Statements.Formed.{Each}
use Rattle.roundtrip_programs.specs.Statements.Follows.{standing}
use Rattle.roundtrip_programs.proofs.Statements.Turns.{Back}

-- how a list is written and read: the text of an item, and what may stand behind one
pub record Listed {A : Type 0} (between : Between) (one : Reader A) (text : A → List ℕ) (Stops : List ℕ → Type 0) (P : A → Type 0) : Type 0 where
  pub back : (x : A) → P x → Back one (text x) x Stops
  pub at_comma : (u : List ℕ) → Stops (44 ∷ u)
  pub goes_on : (x : A) (u : List ℕ) (k : Notes) → P x → between (standing (44 ∷ (text x ++ u)) k) ≡ Some (standing (text x ++ u) k)

pub ends_at : {A : Type 0} (between : Between) (one : Reader A) (n : ℕ) (found : List A) (s : State) → between s ≡ None → more_by between one n found s ≡ Some (found, s)
unfolding more_by
ends_at between one zero found s h = refl
ends_at between one (suc n) found s h = rw h

pub steps_on : {A : Type 0} (between : Between) (one : Reader A) (n : ℕ) (found : List A) (x : A) (s u v : State) → between s ≡ Some u → one u ≡ Some (x, v)
    → more_by between one (suc n) found s ≡ more_by between one n (found ++ x ∷ []) v
unfolding more_by
steps_on between one n found x s u v h o =
    ap (λ (y : Option State). or_done found s y (λ t. one t >>= λ r. more_by between one n (found ++ r.0 ∷ []) r.1)) h
    ∙ ap (λ (y : Option (_ × State)). y >>= λ r. more_by between one n (found ++ r.0 ∷ []) r.1) o

-- what follows an item may follow it
stops_at : {A : Type 0} (between : Between) (one : Reader A) (text : A → List ℕ) (Stops : List ℕ → Type 0) (P : A → Type 0) → Listed between one text Stops P
    → (xs : List A) (t : List ℕ) → Stops t → Stops (others_by text xs ++ t)
stops_at between one text Stops P l [] t h = h
stops_at between one text Stops P l (x ∷ xs) t h = l.at_comma ((text x ++ others_by text xs) ++ t)

pub more_back : {A : Type 0} (between : Between) (one : Reader A) (text : A → List ℕ) (Stops : List ℕ → Type 0) (P : A → Type 0) → Listed between one text Stops P
    → (xs : List A) (n : ℕ) (found : List A) (t : List ℕ) (k : Notes) → Each P xs → length xs ≤ n → Stops t → between (standing t k) ≡ None
    → more_by between one n found (standing (others_by text xs ++ t) k) ≡ Some (found ++ xs, standing t k)
more_back between one text Stops P l [] n found t k e h j b = ends_at between one n found (standing t k) b ∙ ap (λ (y : List _). Some (y, standing t k)) (sym (append-nil found))
more_back between one text Stops P l (x ∷ xs) zero found t k e h j b = absurd (omega arith)
more_back between one text Stops P l (x ∷ xs) (suc n) found t k e h j b =
    let u : List ℕ = others_by text xs ++ t in
    let m : (text x ++ others_by text xs) ++ t ≡ text x ++ u = append_assoc (text x) (others_by text xs) t in
    ap (λ (y : List ℕ). more_by between one (suc n) found (standing (44 ∷ y) k)) m
    ∙ steps_on between one n found x (standing (44 ∷ (text x ++ u)) k) (standing (text x ++ u) k) (standing u k)
    (l.goes_on x u k e.first) (l.back x e.first u k (stops_at between one text Stops P l xs t j))
    ∙ more_back between one text Stops P l xs n (found ++ x ∷ []) t k e.others (omega arith) j b
    ∙ ap (λ (y : List _). Some (y, standing t k)) (append_assoc found (x ∷ []) xs)

pub others_long : {A : Type 0} (text : A → List ℕ) (xs : List A) (t : List ℕ) → length xs ≤ length (others_by text xs ++ t)
others_long text [] t = omega arith
others_long text (x ∷ xs) t =
    let h = others_long text xs t in
    omega (arith, h, length-append (text x) (others_by text xs), length-append (text x ++ others_by text xs) t, length-append (others_by text xs) t)

pub items_back : {A : Type 0} (between : Between) (one : Reader A) (text : A → List ℕ) (Stops : List ℕ → Type 0) (P : A → Type 0) → Listed between one text Stops P
    → (x : A) (xs : List A) (t : List ℕ) (k : Notes) → P x → Each P xs → Stops t → between (standing t k) ≡ None
    → items_by between one (standing (joined_by text (x ∷ xs) ++ t) k) ≡ Some (x ∷ xs, standing t k)
unfolding items_by
items_back between one text Stops P l x xs t k p e j b =
    let u : List ℕ = others_by text xs ++ t in
    ap (λ (y : List ℕ). items_by between one (standing y k)) (append_assoc (text x) (others_by text xs) t)
    ∙ ap (λ (y : Option (_ × State)). y >>= λ r. more_by between one (length r.1.rest) (r.0 ∷ []) r.1) (l.back x p u k (stops_at between one text Stops P l xs t j))
    ∙ more_back between one text Stops P l xs (length u) (x ∷ []) t k e (others_long text xs t) j b
