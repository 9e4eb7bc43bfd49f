-- What is asked for by names.
use Rattle.std.proofs.Common.{◌≡◌, ℕ, Bool, true, false, List, [], ◌∷◌, Option, Some, None, refl, sym, ap, ◌∙◌, subst}
use Rattle.std.specs.Prelude.{find, is_some, codes, bytes_eq, IfSome, IfNone, ◌≢◌, if◌then◌else◌}
use Rattle.std.specs.Cmp.Lexicographic.{bytes_decides}
use Rattle.f77_ast.specs.Symbols.{number_from}
use Rattle.session_texts.specs.pipsmake_rules.declared.kind.Kind.{Kind}
use Rattle.session_texts.specs.pipsmake_rules.declared.kind.Kind.TheVariants.{Parsed, Lines, Symbols, CallGraph, Effects, Transformers, Preconditions, Regions, InRegions, OutRegions, Marks, Printed}
use Rattle.session_texts.specs.pipsmake_rules.Kinds.{name_of, kinds, kind_with}
use Rattle.session_texts.specs.pipsmake_rules.Neighbours.{has_name}
use Rattle.session_texts.specs.pipsmake_meaning.Texts.{ModuleText, names_in}
use Rattle.laws_database.specs.Laws.{CanMake}
use Rattle.session_texts.proofs.Removed.{there}
use Rattle.pipsmake_db.specs.declared.refusal.DbRefusal.{DbRefusal}
use Rattle.pipsmake_db.specs.declared.refusal.DbRefusal.TheVariants.{NoSuchName}
use Rattle.pipsmake_db.specs.Asked.{IsAsked, refused_unless}
use Rattle.pipsmake_db.specs.Refusals.{or_else, of_kind, name_refusal, graph_refusal, owner_refusal, show_refusal, links_refusal, make_refusal, value_refusal}
use Rattle.session_texts.specs.pipsmake_rules.declared.key.Key.{Key}
use Rattle.result_lines.specs.declared.show.Show.{Show}
use Rattle.pipsmake_db.specs.declared.db.Db.{Db}
use Rattle.pipsmake_db.specs.declared.db.Shown.{Shown}
use Rattle.pipsmake_db.specs.Calls.{key, Makes, MakesLinked, MakesNamed, Shows, ShowsLinked, ShowsNamed}
use Rattle.pipsmake_db.specs.State.{texts_of}
use Rattle.pipsmake_db.proofs.LinkLaws.{are_linked}
use Rattle.session_texts.proofs.PipsmakeRules.Shared.{named_back as kind_of-name}
use Rattle.fx_lists.proofs.Texts.{unequal_texts}

-- ---- the kind of a name

find-none : (p : Kind → Bool) (ks : List Kind) → ((k : Kind) → p k ≡ false) → find p ks ≡ None
find-none p [] h = refl
find-none p (k ∷ ks) h = ap (λ b. if b then Some k else find p ks) (h k) ∙ find-none p ks h

pub kind_is : (x : List ℕ) (o : Option Kind) → IfSome o (λ k. name_of k ≡ x) → IfNone o ((k : Kind) → name_of k ≢ x) → o ≡ kind_with x
kind_is x (Some k) e n = sym (ap kind_with (sym e) ∙ kind_of-name k)
kind_is x None e n = sym (find-none (λ k. bytes_eq (name_of k) x) kinds (λ k. unequal_texts (name_of k) x (n k)))

-- ---- the owner of a result

pub named : (ts : List ModuleText) (x : List ℕ) (o : Option ℕ) → o ≡ number_from 0 (names_in ts) x → name_refusal ts x ≡ refused_unless (is_some o) NoSuchName
named ts x o e = ap (λ b. refused_unless b NoSuchName) (there 0 (names_in ts) x ∙ ap is_some (sym e))

pub graph_named : (x : List ℕ) (b : Bool) → b ≡ bytes_eq x (codes "*") → graph_refusal x ≡ refused_unless b NoSuchName
graph_named x b e = ap (λ c. refused_unless c NoSuchName) (sym e)

pub is_owned : (why : Option DbRefusal) (b : Bool) (r : DbRefusal) → why ≡ refused_unless b r → b ≡ true → why ≡ None
is_owned why b r e t = e ∙ ap (λ c. refused_unless c r) t

pub is_not_owned : (why : Option DbRefusal) (b : Bool) (r : DbRefusal) → why ≡ refused_unless b r → b ≡ false → why ≡ Some r
is_not_owned why b r e t = e ∙ ap (λ c. refused_unless c r) t

-- ---- what can be made

has : (ts : List ModuleText) (x : List ℕ) → name_refusal ts x ≡ None → has_name (names_in ts) x ≡ true
has ts x e = go (has_name (names_in ts) x) e
  where
    go : (b : Bool) → (if b then None else Some NoSuchName) ≡ None → b ≡ true
    go true h = refl
    go false h = cc

is_star : (x : List ℕ) → owner_refusal [] CallGraph x ≡ None → x ≡ codes "*"
is_star x e = go (bytes_eq x (codes "*")) refl e
  where
    go : (b : Bool) → bytes_eq x (codes "*") ≡ b → (if b then None else Some NoSuchName) ≡ None → x ≡ codes "*"
    go true t h = (bytes_decides x (codes "*")).0 t
    go false t h = cc

pub can_make : (ts : List ModuleText) (k : Kind) (x : List ℕ) → owner_refusal ts k x ≡ None → links_refusal ts k ≡ None → CanMake ts k x
can_make ts Parsed x o l = has ts x o
can_make ts Lines x o l = has ts x o
can_make ts Symbols x o l = has ts x o
can_make ts CallGraph x o l = (are_linked ts l, is_star x o)
can_make ts Effects x o l = (are_linked ts l, has ts x o)
can_make ts Transformers x o l = (are_linked ts l, has ts x o)
can_make ts Preconditions x o l = (are_linked ts l, has ts x o)
can_make ts Regions x o l = (are_linked ts l, has ts x o)
can_make ts InRegions x o l = (are_linked ts l, has ts x o)
can_make ts OutRegions x o l = (are_linked ts l, has ts x o)
can_make ts Marks x o l = (are_linked ts l, has ts x o)
can_make ts Printed x o l = (are_linked ts l, has ts x o)

-- ---- refusals by names

pub of_kind-some : (why why' : Kind → Option DbRefusal) (o : Option Kind) (r : DbRefusal) → ((k : Kind) (q : DbRefusal) → why k ≡ Some q → why' k ≡ Some q) → of_kind why o ≡ Some r → of_kind why' o ≡ Some r
of_kind-some why why' None r f e = e
of_kind-some why why' (Some k) r f e = f k r e

or_else-first : (a b : Option DbRefusal) (r : DbRefusal) → a ≡ Some r → or_else a b ≡ Some r
or_else-first a b r e = ap (λ c. or_else c b) e

-- a kind or an owner that is not there
pub make_asked : (ts : List ModuleText) (kind x : List ℕ) (r : DbRefusal) → of_kind (λ k. owner_refusal ts k x) (kind_with kind) ≡ Some r → make_refusal ts kind x ≡ Some r
make_asked ts kind x r e =
    of_kind-some (λ k. owner_refusal ts k x) (λ k. or_else (owner_refusal ts k x) (links_refusal ts k)) (kind_with kind) r (λ k q h. or_else-first (owner_refusal ts k x) (links_refusal ts k) q h) e

pub value_asked : (ts : List ModuleText) (kind x : List ℕ) (r : DbRefusal) → of_kind (λ k. owner_refusal ts k x) (kind_with kind) ≡ Some r → value_refusal ts kind x ≡ Some r
value_asked ts kind x r e =
    of_kind-some (λ k. owner_refusal ts k x) (λ k. or_else (owner_refusal ts k x) (or_else (show_refusal k) (links_refusal ts k))) (kind_with kind) r (λ k q h. or_else-first (owner_refusal ts k x) (or_else (show_refusal k) (links_refusal ts k)) q h) e

-- of a kind and an owner that are there links are left
pub make_links : (ts : List ModuleText) (kind x : List ℕ) (k : Kind) → IsAsked ts kind x k → make_refusal ts kind x ≡ links_refusal ts k
make_links ts kind x k a = ap (of_kind (λ k. or_else (owner_refusal ts k x) (links_refusal ts k))) a.is_named ∙ ap (λ o. or_else o (links_refusal ts k)) a.is_owned

pub value_shown : (ts : List ModuleText) (kind x : List ℕ) (k : Kind) → IsAsked ts kind x k → value_refusal ts kind x ≡ or_else (show_refusal k) (links_refusal ts k)
value_shown ts kind x k a =
    ap (of_kind (λ k. or_else (owner_refusal ts k x) (or_else (show_refusal k) (links_refusal ts k)))) a.is_named ∙ ap (λ o. or_else o (or_else (show_refusal k) (links_refusal ts k))) a.is_owned

pub value_links : (ts : List ModuleText) (kind x : List ℕ) (k : Kind) → IsAsked ts kind x k → show_refusal k ≡ None → value_refusal ts kind x ≡ links_refusal ts k
value_links ts kind x k a s = value_shown ts kind x k a ∙ ap (λ o. or_else o (links_refusal ts k)) s

pub one_kind : (kind : List ℕ) (j k : Kind) → kind_with kind ≡ Some j → kind_with kind ≡ Some k → j ≡ k
one_kind kind j k e f = let z : Some j ≡ Some k = sym e ∙ f in cc

-- ---- what calls say

pub makes_named : (old new : Db) (kind x : List ℕ) (k : Kind) (now : List Key) → IsAsked (texts_of old) kind x k → MakesLinked old new (key k x) now → MakesNamed old new kind x now
makes_named old new kind x k now a m = (make_links (texts_of old) kind x k a ∙ m.links, λ j e. subst (λ i. Makes old new (key i x) now) (one_kind kind k j a.is_named e) m.makes)

pub shows_named : (old new : Db) (kind x : List ℕ) (k : Kind) (show : Show) (s : Shown) → IsAsked (texts_of old) kind x k → (show_refusal k ≡ None) × ShowsLinked old new k x show s → ShowsNamed old new kind x show s
shows_named old new kind x k show s a m = (value_links (texts_of old) kind x k a m.0 ∙ m.1.links, λ j e. subst (λ i. Shows old new i x show s) (one_kind kind k j a.is_named e) m.1.shows)
