-- Results that are brought up to date one after another.
use Rattle.std.proofs.Common.{◌≡◌, inl, inr, List, [], ◌∷◌, ◌++◌, Some, None, refl, sym, ap, ◌∙◌, subst, append_assoc, append-nil}
use Rattle.session_texts.specs.pipsmake_rules.declared.key.Key.{Key}
use Rattle.session_texts.specs.pipsmake_meaning.Texts.{ModuleText}
use Rattle.session_texts.specs.pipsmake_meaning.MemoCells.{MemoCells, KeepsIn}
use Rattle.session_texts.specs.pipsmake_meaning.Values.{Value, result}
use Rattle.session_texts.specs.pipsmake_meaning.Rules.{rule_value}
use Rattle.session_texts.specs.pipsmake_meaning.Making.{stamps_now, IsCurrent, AllStay, Brings, BringsAll}
use Rattle.pipsmake_db.specs.Bring.{BringsOne, BringsSome}
use Rattle.pipsmake_db.proofs.TextLaws.{same_memo_cells}

-- ---- one result

pub stays_current : (sh : MemoCells) (ts : List ModuleText) (k : Key) (made : List Key) → IsCurrent sh ts k → BringsOne sh ts k made made sh
stays_current sh ts k made c = ([], inl (inl c, refl, λ item x. refl), sym (append-nil made))

pub stays_without : (sh : MemoCells) (ts : List ModuleText) (k : Key) (made : List Key) → rule_value sh ts k ≡ None → BringsOne sh ts k made made sh
stays_without sh ts k made n = ([], inl (inr n, refl, λ item x. refl), sym (append-nil made))

pub makes_one : (sh new : MemoCells) (ts : List ModuleText) (k : Key) (made more : List Key) (v : Value) → (IsCurrent sh ts k → ⊥) → rule_value sh ts k ≡ Some v → KeepsIn sh new (result k.kind) k.name v (stamps_now sh ts k) → more ≡ made ++ k ∷ [] → BringsOne sh ts k made more new
makes_one sh new ts k made more v d r keeps e = (k ∷ [], inr (refl, record { outdated = d; value = v; rule = r; keeps = keeps }), e)

-- ---- one after another

brings_more : (ts : List ModuleText) (ks : List Key) (sh mid new : MemoCells) (now more : List Key) (k : Key) → BringsAll sh ts ks now mid → Brings mid ts k more new → BringsAll sh ts (ks ++ k ∷ []) (now ++ more) new
brings_more ts [] sh mid new now more k a b =
    let same : mid ≡ sh = same_memo_cells sh mid a.1 in
    (new, more, [], subst (λ s. Brings s ts k more new) same b, (refl, λ item x. refl), ap (λ n. n ++ more) a.0 ∙ sym (append-nil more))
brings_more ts (j ∷ ks) sh mid new now more k a b =
    (a.0, a.1, a.2 ++ more, a.3, brings_more ts ks a.0 mid new a.2 more k a.4 b, ap (λ n. n ++ more) a.5 ∙ append_assoc a.1 a.2 more)

-- the first of these results were brought up to date, and these are left
pub record BringsRest (sh : MemoCells) (ts : List ModuleText) (walk : List Key) (now : List Key) (new : MemoCells) (left : List Key) : Type 0 where
  pub done : List Key
  pub parts : done ++ left ≡ walk
  pub brings : BringsAll sh ts done now new

pub brings_none : (sh : MemoCells) (ts : List ModuleText) (walk : List Key) → BringsRest sh ts walk [] sh walk
brings_none sh ts walk = record { done = []; parts = refl; brings = (refl, λ item x. refl) }

pub brings_one : (sh mid new : MemoCells) (ts : List ModuleText) (walk now more : List Key) (k : Key) (left : List Key) → BringsRest sh ts walk now mid (k ∷ left) → BringsOne mid ts k now more new → BringsRest sh ts walk more new left
brings_one sh mid new ts walk now more k left r b = record {
  done = r.done ++ k ∷ [];
  parts = append_assoc r.done (k ∷ []) left ∙ r.parts;
  brings = subst (λ m. BringsAll sh ts (r.done ++ k ∷ []) m new) (sym b.2) (brings_more ts r.done sh mid new now b.0 k r.brings b.1);
}

pub brings_all : (sh new : MemoCells) (ts : List ModuleText) (walk now : List Key) → BringsRest sh ts walk now new [] → BringsAll sh ts walk now new
brings_all sh new ts walk now r = subst (λ ks. BringsAll sh ts ks now new) (sym (append-nil r.done) ∙ r.parts) r.brings

-- where one more was not brought up to date
pub brings_some : (sh mid new : MemoCells) (ts : List ModuleText) (walk now left : List Key) → BringsRest sh ts walk now mid left → AllStay mid new → BringsSome sh ts walk new
brings_some sh mid new ts walk now left r s = record {
  before = r.done;
  after = left;
  now = now;
  are = sym r.parts;
  brings = subst (λ z. BringsAll sh ts r.done now z) (sym (same_memo_cells mid new s)) r.brings;
}

-- nothing was
pub brings_nothing : (sh : MemoCells) (ts : List ModuleText) (walk : List Key) → BringsSome sh ts walk sh
brings_nothing sh ts walk = record { before = []; after = walk; now = []; are = refl; brings = (refl, λ item x. refl) }

-- all were
pub brings_whole : (sh new : MemoCells) (ts : List ModuleText) (walk now : List Key) → BringsAll sh ts walk now new → BringsSome sh ts walk new
brings_whole sh new ts walk now b = record { before = walk; after = []; now = now; are = sym (append-nil walk); brings = b }
