-- What was made at the present texts is up to date, and stays so.
use Rattle.std.proofs.Common.{◌≡◌, ◌⊎◌, inl, inr, ℕ, Bool, true, false, ◌||◌, List, [], ◌∷◌, ◌++◌, Some, refl, sym, ap, ◌∙◌, subst}
use Rattle.std.specs.Prelude.{if◌then◌else◌}
use Rattle.std.proofs.lemmas.Bool.{or_left, or_right}
use Rattle.session_texts.specs.pipsmake_rules.declared.kind.Kind.{Kind}
use Rattle.session_texts.specs.pipsmake_rules.declared.kind.Kind.TheVariants as kind
use Rattle.session_texts.specs.pipsmake_rules.declared.key.Key.{Key}
use Rattle.session_texts.specs.pipsmake_rules.Keys.{same_key, holds}
use Rattle.session_texts.proofs.PipsmakeRules.KeyLaws.{same_key-true, same_key_self, holds-last, holds-more}
use Rattle.call_graph.specs.CallsIn.{Each}
use Rattle.session_texts.specs.pipsmake_meaning.Texts.{ModuleText}
use Rattle.session_texts.specs.pipsmake_meaning.Session.{Makings, needs_in, SameText, SameValue, UpToDate, MadeOf, made_now}
use Rattle.pipsmake_db.specs.Fresh.{key_put, keys_put}
use Rattle.pipsmake_db.proofs.WalkedLists.{new_of}
use Rattle.laws_database.proofs.Keeping.{held}

-- ---- lists

pub each_map : (P Q : Key → Type 0) (xs : List Key) → ((x : Key) → P x → Q x) → Each P xs → Each Q xs
each_map P Q [] f h = tt
each_map P Q (x ∷ xs) f h = (f x h.0, each_map P Q xs f h.1)

pub each_join : (P : Key → Type 0) (xs ys : List Key) → Each P xs → Each P ys → Each P (xs ++ ys)
each_join P [] ys h k = k
each_join P (x ∷ xs) ys h k = (h.0, each_join P xs ys h.1 k)

pub each_new : (P : Key → Type 0) (l ks : List Key) → Each P ks → Each P (new_of l ks)
each_new P l [] h = tt
each_new P l (k ∷ ks) h = go (holds l k) (each_new P l ks h.1)
  where
    go : (b : Bool) → Each P (new_of l ks) → Each P (if b then new_of l ks else k ∷ new_of l ks)
    go true ih = ih
    go false ih = (h.0, ih)

-- what holds of all of a list holds of all that are in it
pub each_held : (P : Key → Type 0) (done ks : List Key) → Each P done → ((k : Key) → holds ks k ≡ true → holds done k ≡ true) → Each P ks
each_held P done [] h f = tt
each_held P done (k ∷ ks) h f =
    (held P done k h (f k (or_left (same_key k k) (holds ks k) (same_key_self k))), each_held P done ks h (λ j e. f j (or_right (same_key k j) (holds ks j) e)))

-- ---- what is up to date

pub same_text : (k : Kind) (x : List ℕ) (ts : List ModuleText) → SameText k x ts ts
same_text kind.Parsed x ts = refl
same_text kind.Lines x ts = refl
same_text kind.Symbols x ts = tt
same_text kind.CallGraph x ts = tt
same_text kind.Effects x ts = tt
same_text kind.Transformers x ts = tt
same_text kind.Preconditions x ts = tt
same_text kind.Regions x ts = tt
same_text kind.InRegions x ts = tt
same_text kind.OutRegions x ts = tt
same_text kind.Marks x ts = tt
same_text kind.Printed x ts = tt

pub same_values : (ts : List ModuleText) (ns : List Key) → Each (SameValue ts ts) ns
same_values ts [] = tt
same_values ts (n ∷ ns) = (refl, same_values ts ns)

module _ (made : Makings) (ts : List ModuleText) (now : List Key) where
  pub up_made : (k : Key) → holds now k ≡ true → UpToDate (made_now made ts now) ts k
  up_made k e = record { old = ts; was_made = ap (λ b. if b then Some ts else made k.kind k.name) e; text = same_text k.kind k.name ts; needs = refl; values = same_values ts (needs_in ts k) }

  pub up_stays : (k : Key) → UpToDate made ts k → UpToDate (made_now made ts now) ts k
  up_stays k u = go (holds now k) refl
    where
      go : (b : Bool) → holds now k ≡ b → UpToDate (made_now made ts now) ts k
      go true e = up_made k e
      go false e = record { old = u.old; was_made = ap (λ b. if b then Some ts else made k.kind k.name) e ∙ u.was_made; text = u.text; needs = u.needs; values = u.values }

-- each result of a walk was made, or is up to date
abbrev pub IsMadeOr : Makings → List ModuleText → List Key → Key → Type 0
IsMadeOr made ts now k = (holds now k ≡ true) ⊎ UpToDate made ts k

pub made_later : (made : Makings) (ts : List ModuleText) (rest : List Key) (k j : Key) → IsMadeOr made ts rest j → IsMadeOr made ts (k ∷ rest) j
made_later made ts rest k j (inl e) = inl (or_right (same_key k j) (holds rest j) e)
made_later made ts rest k j (inr u) = inr u

pub made_or : (made : Makings) (ts : List ModuleText) (ks now : List Key) → MadeOf made ts ks now → Each (IsMadeOr made ts now) ks
made_or made ts [] now h = tt
made_or made ts (k ∷ ks) now (inl h) = (inr h.0, made_or made ts ks now h.1)
made_or made ts (k ∷ ks) now (inr h) =
    let rest : List Key = h.1.0 in
    let later : Each (IsMadeOr made ts rest) ks = made_or made ts ks h.1.0 h.1.2 in
    let first : holds (k ∷ rest) k ≡ true = or_left (same_key k k) (holds rest k) (same_key_self k) in
    let all : Each (IsMadeOr made ts (k ∷ rest)) (k ∷ ks) = (inl first, each_map (IsMadeOr made ts rest) (IsMadeOr made ts (k ∷ rest)) ks (λ j. made_later made ts rest k j) later) in
    subst (λ ns. Each (IsMadeOr made ts ns) (k ∷ ks)) (sym h.1.1) all

pub walk_is_current : (made : Makings) (ts : List ModuleText) (ks now : List Key) → MadeOf made ts ks now → Each (UpToDate (made_now made ts now) ts) ks
walk_is_current made ts ks now h = each_map (IsMadeOr made ts now) (UpToDate (made_now made ts now) ts) ks one (made_or made ts ks now h)
  where
    one : (k : Key) → IsMadeOr made ts now k → UpToDate (made_now made ts now) ts k
    one k (inl e) = up_made made ts now k e
    one k (inr u) = up_stays made ts now k u

-- results that are up to date are not made: of a walk just those count that are not among them
module _ (made : Makings) (ts : List ModuleText) (l : List Key) (current : Each (UpToDate made ts) l) where
  pub made_whole : (ks now : List Key) → MadeOf made ts (new_of l ks) now → MadeOf made ts ks now
  made_whole [] now h = h
  made_whole (k ∷ ks) now h = go (holds l k) refl h (made_whole ks)
    where
      go : (b : Bool) → holds l k ≡ b → MadeOf made ts (if b then new_of l ks else k ∷ new_of l ks) now → ((n : List Key) → MadeOf made ts (new_of l ks) n → MadeOf made ts ks n) → MadeOf made ts (k ∷ ks) now
      go true q m ih = inl (held (UpToDate made ts) l k current q, ih now m)
      go false q (inl m) ih = inl (m.0, ih now m.1)
      go false q (inr m) ih = inr (m.0, (m.1.0, m.1.1, ih m.1.0 m.1.2))

-- ---- fresh results

abbrev pub Within : List Key → List Key → Type 0
Within l fresh = (k : Key) → holds l k ≡ true → holds fresh k ≡ true

pub put_keeps : (j k : Key) (ks : List Key) → holds ks k ≡ true → holds (key_put j ks) k ≡ true
put_keeps j k ks e = go (holds ks j)
  where
    go : (b : Bool) → holds (if b then ks else ks ++ j ∷ []) k ≡ true
    go true = e
    go false = holds-more ks j k e

pub put_holds : (j : Key) (ks : List Key) → holds (key_put j ks) j ≡ true
put_holds j ks = go (holds ks j) refl
  where
    go : (b : Bool) → holds ks j ≡ b → holds (if b then ks else ks ++ j ∷ []) j ≡ true
    go true e = e
    go false e = holds-last ks j

pub puts_keep : (js ks : List Key) (k : Key) → holds ks k ≡ true → holds (keys_put ks js) k ≡ true
puts_keep [] ks k e = e
puts_keep (j ∷ js) ks k e = puts_keep js (key_put j ks) k (put_keeps j k ks e)

pub puts_hold : (js ks : List Key) (k : Key) → holds js k ≡ true → holds (keys_put ks js) k ≡ true
puts_hold [] ks k e = cc
puts_hold (j ∷ js) ks k e = go (same_key j k) refl e (λ f. puts_hold js (key_put j ks) k f)
  where
    go : (b : Bool) → same_key j k ≡ b → (b || holds js k) ≡ true → (holds js k ≡ true → holds (keys_put (key_put j ks) js) k ≡ true) → holds (keys_put (key_put j ks) js) k ≡ true
    go true s q later = puts_keep js (key_put j ks) k (subst (λ i. holds (key_put j ks) i ≡ true) (same_key-true j k s) (put_holds j ks))
    go false s q later = later q

-- what is fresh need not be put again
pub put_whole : (l ks fresh : List Key) → Within l fresh → keys_put fresh (new_of l ks) ≡ keys_put fresh ks
put_whole l [] fresh f = refl
put_whole l (k ∷ ks) fresh f = go (holds l k) refl (λ more g. put_whole l ks more g)
  where
    go : (b : Bool) → holds l k ≡ b → ((more : List Key) → Within l more → keys_put more (new_of l ks) ≡ keys_put more ks) → keys_put fresh (if b then new_of l ks else k ∷ new_of l ks) ≡ keys_put (key_put k fresh) ks
    go true q ih = ih fresh f ∙ ap (λ more. keys_put more ks) (sym (ap (λ b. if b then fresh else fresh ++ k ∷ []) (f k q)))
    go false q ih = ih (key_put k fresh) (λ j e. put_keeps k j fresh (f j e))
