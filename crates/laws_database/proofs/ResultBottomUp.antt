-- A pass over modules that gives each the summaries of those before it. Where callees come first, each result is as if it were made with the summaries of all.
use Rattle.std.proofs.Common.{◌≡◌, ℕ, Bool, true, false, List, [], ◌∷◌, Some, None, refl, sym, ap, ◌∙◌, subst}
use Rattle.std.specs.Prelude.{map, bytes_eq, if◌then◌else◌}
use Rattle.std.proofs.lemmas.Slice.Eq.{bytes_eq-Decides}
use Rattle.f77_ast.specs.Summaries.{SummaryTree}
use Rattle.f77_meaning.specs.Modules.{Known}
use Rattle.call_graph.specs.CallsIn.{CallAt, Each, list_calls}
use Rattle.laws_database.specs.ResultCallees.{Summaries, SameCallees}
use Rattle.laws_database.proofs.ResultOrders.{NoneNamed, CalleesFirst}
use Rattle.call_graph.proofs.EachLaws.{each_more}

-- from A it makes B, of which callers see T; the summaries of what a module does not call do not matter
pub record Pass (A B T : Type 0) : Type 0 where
  pub key : A → Known
  pub back : B → A
  pub value : B → T
  pub make : Summaries T → A → B
  pub is_back : (cs : Summaries T) (a : A) → back (make cs a) ≡ a
  pub needs : (cs ds : Summaries T) (a : A) → SameCallees (key a).read.body cs ds → make cs a ≡ make ds a

abbrev pub no_summaries : {T : Type 0} → Summaries T
no_summaries x = None

module _ {A B T : Type 0} (p : Pass A B T) where
  abbrev pub name_of : B → List ℕ
  name_of b = (p.key (p.back b)).read.name

  abbrev pub seen : B → SummaryTree T
  seen b = record { symbols = (p.key (p.back b)).symbols; value = p.value b }

  abbrev pub more : B → Summaries T → Summaries T
  more b cs x = if bytes_eq (name_of b) x then Some (seen b) else cs x

  abbrev pub run : Summaries T → List A → List B
  run cs [] = []
  run cs (a ∷ as') = p.make cs a ∷ run (more (p.make cs a) cs) as'

  -- the first of a name, or else what is known
  abbrev pub first_or : Summaries T → List B → Summaries T
  first_or cs [] x = cs x
  first_or cs (b ∷ bs) x = if bytes_eq (name_of b) x then Some (seen b) else first_or cs bs x

  abbrev Absent : List ℕ → List B → Type 0
  Absent y bs = Each (λ (b : B). bytes_eq (name_of b) y ≡ false) bs

  absent : (as' : List A) (cs : Summaries T) (y : List ℕ) → NoneNamed y (map p.key as') → Absent y (run cs as')
  absent [] cs y n = tt
  absent (a ∷ as') cs y n = (ap (λ z. bytes_eq (p.key z).read.name y) (p.is_back cs a) ∙ n.0, absent as' (more (p.make cs a) cs) y n.1)

  first_none : (cs : Summaries T) (bs : List B) (y : List ℕ) → Absent y bs → first_or cs bs y ≡ cs y
  first_none cs [] y n = refl
  first_none cs (b ∷ bs) y n = ap (λ t. if t then Some (seen b) else first_or cs bs y) n.0 ∙ first_none cs bs y n.1

  first_same : (cs ds : Summaries T) (bs : List B) (y : List ℕ) → cs y ≡ ds y → first_or cs bs y ≡ first_or ds bs y
  first_same cs ds [] y e = e
  first_same cs ds (b ∷ bs) y e = ap (λ z. if bytes_eq (name_of b) y then Some (seen b) else z) (first_same cs ds bs y e)

  moved : (cs : Summaries T) (b : B) (bs : List B) (y : List ℕ) → Absent (name_of b) bs → first_or (more b cs) bs y ≡ first_or cs (b ∷ bs) y
  moved cs b bs y n = go (bytes_eq (name_of b) y) refl
    where
      go : (t : Bool) → bytes_eq (name_of b) y ≡ t → first_or (more b cs) bs y ≡ first_or cs (b ∷ bs) y
      go true e =
          first_none (more b cs) bs y (subst (λ z. Absent z bs) ((bytes_eq-Decides (name_of b) y).0 e) n)
          ∙ (ap (λ t. if t then Some (seen b) else cs y) e ∙ sym (ap (λ t. if t then Some (seen b) else first_or cs bs y) e))
      go false e = first_same (more b cs) cs bs y (ap (λ t. if t then Some (seen b) else cs y) e) ∙ sym (ap (λ t. if t then Some (seen b) else first_or cs bs y) e)

  good : (as' : List A) (cs : Summaries T) → CalleesFirst (map p.key as') → (all : Summaries T) → ((y : List ℕ) → first_or cs (run cs as') y ≡ all y) → Each (λ (b : B). b ≡ p.make all (p.back b)) (run cs as')
  good [] cs s all h = tt
  good (a ∷ as') cs s all h = (first, good as' (more b cs) s.2 all (λ y. moved cs b (run (more b cs) as') y fresh ∙ h y))
    where
      b : B
      b = p.make cs a

      fresh : Absent (name_of b) (run (more b cs) as')
      fresh = absent as' (more b cs) (name_of b) (subst (λ z. NoneNamed (p.key z).read.name (map p.key as')) (sym (p.is_back cs a)) s.0)

      agree : SameCallees (p.key a).read.body cs all
      agree =
          each_more (λ (c : CallAt). NoneNamed c.callee (map p.key (a ∷ as'))) (λ (c : CallAt). cs c.callee ≡ all c.callee) (list_calls (p.key a).read.body)
          (λ c n. sym (first_none cs (run cs (a ∷ as')) c.callee (absent (a ∷ as') cs c.callee n)) ∙ h c.callee) s.1

      first : p.make cs a ≡ p.make all (p.back (p.make cs a))
      first = p.needs cs all a agree ∙ ap (p.make all) (sym (p.is_back cs a))

  -- of all modules
  pub all_good : (as' : List A) → CalleesFirst (map p.key as') → Each (λ (b : B). b ≡ p.make (first_or no_summaries (run no_summaries as')) (p.back b)) (run no_summaries as')
  all_good as' s = good as' no_summaries s (first_or no_summaries (run no_summaries as')) (λ y. refl)

  pub backs : (as' : List A) (cs : Summaries T) → map p.back (run cs as') ≡ as'
  backs [] cs = refl
  backs (a ∷ as') cs = λ i. p.is_back cs a i ∷ backs as' (more (p.make cs a) cs) i
