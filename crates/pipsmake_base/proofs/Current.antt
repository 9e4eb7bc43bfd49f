-- Sessions keep fresh results up to date.
use Rattle.std.proofs.Common.{◌≡◌, ◌⊎◌, ℕ, Bool, true, false, List, [], ◌∷◌, ◌++◌, sym, subst}
use Rattle.std.specs.Prelude.{if◌then◌else◌}
use Rattle.pipsmake_db.specs.pipsmake_rules.declared.kind.Kind.{Kind}
use Rattle.pipsmake_db.specs.pipsmake_rules.declared.kind.Kind.TheVariants as kind
use Rattle.pipsmake_db.specs.pipsmake_rules.declared.key.Key.{Key}
use Rattle.pipsmake_db.specs.pipsmake_rules.Keys.{holds}
use Rattle.call_graph.specs.CallsIn.{Each}
use Rattle.pipsmake_db.specs.laws_database.Laws.{walk_in}
use Rattle.pipsmake_db.specs.pipsmake_meaning.Session.{SameText, SameValue, UpToDate, made_now, none_made}
use Rattle.pipsmake_db.specs.Answers.{MakesIn}
use Rattle.pipsmake_db.specs.Calls.{key}
use Rattle.pipsmake_db.specs.Fresh.{key_put, keys_put}
use Rattle.pipsmake_db.specs.State.{State}
use Rattle.pipsmake_base.specs.Saved.{texts_in, keys_in}
use Rattle.pipsmake_base.specs.Current.{FreshIsCurrent, FirstIsCurrent, LoadedIsCurrent, MakingStaysCurrent, LosingStaysCurrent, PrintingStaysCurrent}
use Rattle.pipsmake_base.proofs.Lists.{all_held}
use Rattle.pipsmake_db.proofs.UpToDate.{walk_is_current, up_made, up_stays}
use Rattle.call_graph.proofs.EachLaws.{each_more, each_joined}

-- ---- fresh results

each_put : (P : Key → Type 0) (k : Key) (ks : List Key) → Each P ks → P k → Each P (key_put k ks)
each_put P k ks h p = go (holds ks k)
  where
    go : (b : Bool) → Each P (if b then ks else ks ++ k ∷ [])
    go true = h
    go false = each_joined P ks (k ∷ []) h (p, tt)

each_puts : (P : Key → Type 0) (js ks : List Key) → Each P ks → Each P js → Each P (keys_put ks js)
each_puts P [] ks h p = h
each_puts P (j ∷ js) ks h p = each_puts P js (key_put j ks) (each_put P j ks h p.0) p.1

pub first_is_current : FirstIsCurrent
first_is_current = tt

pub loaded_is_current : LoadedIsCurrent
loaded_is_current b = each_more (λ k. holds (keys_in b) k ≡ true) (UpToDate (made_now none_made (texts_in b) (keys_in b)) (texts_in b)) (keys_in b) (up_made none_made (texts_in b) (keys_in b)) (all_held (keys_in b))

pub losing_stays_current : LosingStaysCurrent
losing_stays_current s now f = each_more (UpToDate s.made s.texts) (UpToDate (made_now s.made s.texts now) s.texts) s.fresh (up_stays s.made s.texts now) f

pub making_stays_current : MakingStaysCurrent
making_stays_current s k now f m = each_puts (UpToDate (made_now s.made s.texts now) s.texts) (walk_in s.texts k) s.fresh (losing_stays_current s now f) (walk_is_current s.made s.texts (walk_in s.texts k) now m)

pub makes_in : (s t : State) (k : Key) (now : List Key) → MakesIn s k now t → FreshIsCurrent s → FreshIsCurrent t
makes_in s t k now m f = subst FreshIsCurrent (sym m.1) (making_stays_current s k now f m.0)

pub printing_stays_current : PrintingStaysCurrent
printing_stays_current s t [] now m f = subst FreshIsCurrent (sym m.1) f
printing_stays_current s t (x ∷ xs) now m f = printing_stays_current m.2 t xs m.1 m.4 (makes_in s m.2 (key kind.Printed x) m.0 m.3 f)
