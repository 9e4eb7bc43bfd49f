-- Results that are made for what they are defined to be.
use Rattle.std.proofs.Common.{◌≡◌, ℕ, Bool, List, Option, Some, Result, Ok, Err, OnOk, IfOk, sym, ap, ◌∙◌, subst}
use Rattle.pipsmake_db.specs.pipsmake_rules.declared.kind.Kind.{Kind}
use Rattle.pipsmake_db.specs.pipsmake_rules.Kinds.{name_of}
use Rattle.pipsmake_db.specs.laws_database.Stands.{StandsFor}
use Rattle.pipsmake_db.specs.declared.db.Db.{Db}
use Rattle.pipsmake_db.specs.declared.refusal.DbRefusal.{DbRefusal}
use Rattle.pipsmake_db.specs.declared.refusal.DbRefusal.TheVariants.{NoSuchKind, NoSuchName, NotShown, Source, Link, Memory}
use Rattle.pipsmake_db.specs.Calls.{Stays, IsLeft}
use Rattle.pipsmake_db.specs.Refusals.{IsRefused, make_refusal}
use Rattle.pipsmake_db.specs.State.{texts_of}
use Rattle.pipsmake_base.specs.Made.{IsCause, IsTold, IsMade}
use Rattle.pipsmake_base.specs.Taken.{IsInSome}
use Rattle.fx_lists.proofs.Options.{if_ok as if_ok_to}

-- ---- outcomes

pub ok_any : {T E P : Type 0} (r : Result T E) → P → OnOk r P
ok_any (Ok v) p = p
ok_any (Err e) p = tt

pub on_ok_from : {T E Q : Type 0} {P : T → Type 0} (r : Result T E) → ((v : T) → P v → Q) → IfOk r P → OnOk r Q
on_ok_from (Ok v) f h = f v h
on_ok_from (Err e) f h = tt

-- the same value
pub some_as : {V W E : Type 0} (f : V → W) (a b : Option W) (r : Result V E) → a ≡ b → IfOk r (λ v. a ≡ Some (f v)) → IfOk r (λ v. b ≡ Some (f v))
some_as f a b (Ok v) e h = sym e ∙ h
some_as f a b (Err x) e h = tt

-- ---- refusals that are no want of memory

why_is : (why : Option DbRefusal) (r : DbRefusal) → IsCause r → IsRefused why r → why ≡ Some r
why_is why NoSuchKind c h = h
why_is why NoSuchName c h = h
why_is why NotShown c h = h
why_is why (Source line code keyword) c h = h
why_is why (Link x line first code) c h = h
why_is why Memory c h = absurd c

left_is : (old new : Db) (r : DbRefusal) → IsCause r → IsLeft old new r → Stays old new
left_is old new NoSuchKind c h = h
left_is old new NoSuchName c h = h
left_is old new NotShown c h = h
left_is old new (Source line code keyword) c h = h
left_is old new (Link x line first code) c h = h
left_is old new Memory c h = absurd c

pub still_in : (old new : Db) → Stays old new → IsInSome old → IsInSome new
still_in old new s i = record {
  state = i.state;
  is_in = record {
    texts = s.texts ∙ i.is_in.texts;
    stands = subst (λ sh. StandsFor sh i.state.texts i.state.made) (λ j item x. sym (s.kept item x) j) i.is_in.stands;
    fresh = s.fresh ∙ i.is_in.fresh;
  };
}

pub refused_made : (old new : Db) (k : Kind) (word x : List ℕ) (r : DbRefusal) (b : Bool) → word ≡ name_of k → IsRefused (make_refusal (texts_of old) word x) r → IsTold r b → IsMade old new k x b
refused_made old new k word x r b e h t =
    let is : make_refusal (texts_of old) (name_of k) x ≡ Some r = ap (λ w. make_refusal (texts_of old) w x) (sym e) ∙ why_is (make_refusal (texts_of old) word x) r t.1 h in
    subst (IsMade old new k x) (sym t.0) (record { why = r; is = is })

pub refused_texts : (old new : Db) (r : DbRefusal) (b : Bool) → IsLeft old new r → IsTold r b → texts_of new ≡ texts_of old
refused_texts old new r b h t = (left_is old new r t.1 h).texts

pub refused_in : (old new : Db) (r : DbRefusal) (b : Bool) → IsInSome old → IsLeft old new r → IsTold r b → IsInSome new
refused_in old new r b i h t = still_in old new (left_is old new r t.1 h) i
