-- The longest of some words is one of them, and none that stands is longer.
use Rattle.std.proofs.Common.{◌≡◌, ℕ, suc, zero, ◌<◌, ◌≤◌, List, [], ◌∷◌, length, refl, ap, sym, subst, ◌∙◌, arith, Option, Some, None, Bool, true, false, if◌then◌else◌, nat_lt}
use Rattle.std.proofs.lemmas.List.Elements.{All-nil, All-cons}
use Rattle.std.specs.Prelude.{IsTrue, All, Contains, unwrap_or, IfSome}
use Rattle.f77_forms.specs.declared.choice.Choice.TheVariants.{Chosen, OutOfProfile}
use Rattle.f77_forms.specs.declared.form.FormId.{FormId}
use Rattle.f77_forms.specs.declared.form.FormId.TheVariants.{DoWhile}
use Rattle.f77_forms.specs.declared.refused.Refused.{Refused}
use Rattle.f77_forms.specs.Outline.{front, marks_of}
use Rattle.f77_forms.specs.Longest.{longer, longest}
use Rattle.f77_forms.specs.Refused.{refused_word, refused_stands, refused_keywords}
use Rattle.f77_forms.specs.Choice.{Entry, entry_stands, longer_of, keyword_choice, marked_choice, chosen, form_of}
use Rattle.f77_forms.specs.Claim.{IsByKeyword, BeginsAs}
use Rattle.fx_lists.proofs.Numbers.{below_true, below_false}

pub record IsLongest {X : Type 0} (word : X → List ℕ) (test : X → Bool) (xs : List X) (x : X) : Type 0 where
  pub there : Contains xs x
  pub stands : test x ≡ true
  pub longest : All (λ y. test y ≡ true → length (word y) ≤ length (word x)) xs

choice-some : {X : Type 0} (t : Bool) (a b x : X) (P : X → Type 0) → (t ≡ true → P a) → (t ≡ false → P b) → (if t then Some a else Some b) ≡ Some x → P x
choice-some true a b x P p q h = let e : a ≡ x = cc in subst P e (p refl)
choice-some false a b x P p q h = let e : b ≡ x = cc in subst P e (q refl)

choice-none : {X : Type 0} (t : Bool) (a b : X) (P : Type 0) → (if t then Some a else Some b) ≡ None → P
choice-none true a b P h = cc
choice-none false a b P h = cc

-- none stands where there is no longest
none-step : {X : Type 0} (word : X → List ℕ) (test : X → Bool) (y : X) (ys : List X) (t : Bool) → test y ≡ t
    → (r : Option X) → (r ≡ None → All (λ z. test z ≡ false) ys) → longer word (if t then Some y else None) r ≡ None → All (λ z. test z ≡ false) (y ∷ ys)
none-step word test y ys false e None rest h = All-cons (λ z. test z ≡ false) y ys e (rest refl)
none-step word test y ys false e (Some z) rest h = cc
none-step word test y ys true e None rest h = cc
none-step word test y ys true e (Some z) rest h = choice-none (nat_lt (length (word y)) (length (word z))) z y _ h

pub longest-none : {X : Type 0} (word : X → List ℕ) (test : X → Bool) (xs : List X) → longest word test xs ≡ None → All (λ z. test z ≡ false) xs
longest-none word test [] h = All-nil _
longest-none word test (y ∷ ys) h = none-step word test y ys (test y) refl (longest word test ys) (longest-none word test ys) h

contains-more : {X : Type 0} (y : X) (ys : List X) (x : X) → Contains ys x → Contains (y ∷ ys) x
contains-more y ys x c = (suc c.0, omega arith, c.2)

some-step : {X : Type 0} (word : X → List ℕ) (test : X → Bool) (y : X) (ys : List X) (x : X) (t : Bool) → test y ≡ t
    → (r : Option X) → ((z : X) → r ≡ Some z → IsLongest word test ys z) → (r ≡ None → All (λ z. test z ≡ false) ys)
    → longer word (if t then Some y else None) r ≡ Some x → IsLongest word test (y ∷ ys) x
some-step word test y ys x false e None some none h = cc
some-step word test y ys x false e (Some z) some none h =
    let l = some x h in
    record {
      there = contains-more y ys x l.there;
      stands = l.stands;
      longest = All-cons (λ v. test v ≡ true → length (word v) ≤ length (word x)) y ys (λ s. absurd (let c : ⊥ = cc in c)) l.longest;
    }
some-step word test y ys x true e None some none h =
    let same : y ≡ x = cc in
    subst (IsLongest word test (y ∷ ys)) same record {
      there = (zero, omega arith, refl);
      stands = e;
      longest = All-cons (λ v. test v ≡ true → length (word v) ≤ length (word y)) y ys (λ s. omega arith)
          (λ k d lt s. let f = none refl k d lt in cc);
    }
some-step word test y ys x true e (Some z) some none h =
    let l = some z refl in
    choice-some (nat_lt (length (word y)) (length (word z))) z y x (IsLongest word test (y ∷ ys))
    (λ b. let lt = below_true (length (word y)) (length (word z)) b in record {
      there = contains-more y ys z l.there;
      stands = l.stands;
      longest = All-cons (λ v. test v ≡ true → length (word v) ≤ length (word z)) y ys (λ s. omega arith) l.longest;
    })
    (λ b. let le = below_false (length (word y)) (length (word z)) b in record {
      there = (zero, omega arith, refl);
      stands = e;
      longest = All-cons (λ v. test v ≡ true → length (word v) ≤ length (word y)) y ys (λ s. omega arith)
          (λ k d lt s. let m = l.longest k d lt s in omega arith);
    })
    h

pub longest-is : {X : Type 0} (word : X → List ℕ) (test : X → Bool) (xs : List X) (x : X) → longest word test xs ≡ Some x → IsLongest word test xs x
longest-is word test [] x h = cc
longest-is word test (y ∷ ys) x h =
    some-step word test y ys x (test y) refl (longest word test ys) (λ z. longest-is word test ys z) (longest-none word test ys) h

-- none of the refused keywords stands
accepted-none : (body : List ℕ) (n : ℕ) → All (λ r. refused_stands body r ≡ false) refused_keywords
    → All (λ r. IsTrue (refused_stands body r) → length (refused_word r) < n) refused_keywords
accepted-none body n none = λ k d lt s. let f = none k d lt in cc

accepted-shorter : (body : List ℕ) (n : ℕ) (r : Refused) → IsLongest refused_word (refused_stands body) refused_keywords r
    → length (refused_word r) < n → All (λ r. IsTrue (refused_stands body r) → length (refused_word r) < n) refused_keywords
accepted-shorter body n r l h = λ k d lt s. let m = l.longest k d lt s in omega arith

begins-as : (table : List Entry) (body : List ℕ) (e : Entry) → IsLongest (λ e. e.word) (entry_stands body) table e
    → All (λ r. IsTrue (refused_stands body r) → length (refused_word r) < length e.word) refused_keywords → BeginsAs table body e.id
begins-as table body e l a = record { word = e.word; there = l.there; stands = l.stands; longest = l.longest; accepted = a }

chosen-choice : (t : Bool) (e : Entry) (r : Refused) (id : FormId) (P : FormId → Type 0) → (t ≡ true → P e.id)
    → chosen (if t then Chosen e.id else OutOfProfile r) ≡ Some id → P id
chosen-choice true e r id P p h = let same : e.id ≡ id = cc in subst P same (p refl)
chosen-choice false e r id P p h = cc

keyword-by : (table : List Entry) (body : List ℕ) (id : FormId) (f : Option Entry) → longest (λ e. e.word) (entry_stands body) table ≡ f
    → (r : Option Refused) → longest refused_word (refused_stands body) refused_keywords ≡ r → chosen (longer_of f r) ≡ Some id → BeginsAs table body id
keyword-by table body id None hf None hr h = cc
keyword-by table body id None hf (Some r) hr h = cc
keyword-by table body id (Some e) hf None hr h =
    let same : e.id ≡ id = cc in
    subst (BeginsAs table body) same
    (begins-as table body e (longest-is (λ e. e.word) (entry_stands body) table e hf)
    (accepted-none body (length e.word) (longest-none refused_word (refused_stands body) refused_keywords hr)))
keyword-by table body id (Some e) hf (Some r) hr h =
    chosen-choice (nat_lt (length (refused_word r)) (length e.word)) e r id (BeginsAs table body)
    (λ b. begins-as table body e (longest-is (λ e. e.word) (entry_stands body) table e hf)
    (accepted-shorter body (length e.word) r (longest-is refused_word (refused_stands body) refused_keywords r hr) (below_true _ _ b)))
    h

form_of-keyword : (table : List Entry) (body : List ℕ) → IsByKeyword body → form_of table body ≡ chosen (keyword_choice table body)
form_of-keyword table body k =
    ap (λ o. chosen (unwrap_or o (marked_choice (marks_of front body) table body))) k.0 ∙ ap (λ m. chosen (marked_choice m table body)) k.1
    ∙ ap (λ w. chosen (if w then Chosen DoWhile else keyword_choice table body)) k.2

-- a form that is chosen by its keyword has the longest
pub form-begins : (table : List Entry) (body : List ℕ) (r : Option FormId) → r ≡ form_of table body → IsByKeyword body → IfSome r (BeginsAs table body)
form-begins table body None e k = tt
form-begins table body (Some id) e k =
    keyword-by table body id (longest (λ e. e.word) (entry_stands body) table) refl (longest refused_word (refused_stands body) refused_keywords) refl
    (sym (form_of-keyword table body k) ∙ sym e)
