-- The links of texts.
use Rattle.std.proofs.Common.{◌≡◌, ℕ, true, false, List, [], Option, Some, None, Result, Ok, Err, is_ok, refl, sym, ap, ◌∙◌}
use Rattle.std.specs.Prelude.{slice_get}
use Rattle.call_graph.specs.declared.graph.Graph.{Graph}
use Rattle.call_graph.specs.declared.refusal.Fault.{Fault}
use Rattle.call_graph.specs.declared.refusal.Fault.TheVariants as fault
use Rattle.call_graph.specs.Faults.{IsAt as IsFault}
use Rattle.session_texts.specs.pipsmake_meaning.Texts.{ModuleText, links_in, graph_or_none, no_graph}
use Rattle.laws_database.specs.Laws.{AreLinked}
use Rattle.pipsmake_db.specs.declared.linked.Links.{Links}
use Rattle.pipsmake_db.specs.declared.refusal.DbRefusal.{DbRefusal}
use Rattle.pipsmake_db.specs.declared.refusal.DbRefusal.TheVariants.{NoSuchKind, NoSuchName, NotShown, Source, Link, Memory}
use Rattle.pipsmake_db.specs.Links.{AreLinks, IsAt}
use Rattle.pipsmake_db.specs.Refusals.{IsRefused, refused_links, link_refusal}

-- ---- refusals

pub is_refused : (why : Option DbRefusal) (r : DbRefusal) → why ≡ Some r → IsRefused why r
is_refused why r e = go r e
  where
    go : (q : DbRefusal) → why ≡ Some q → IsRefused why q
    go NoSuchKind f = f
    go NoSuchName f = f
    go NotShown f = f
    go (Source l c k) f = f
    go (Link m l b c) f = f
    go Memory f = tt

-- ---- links that are there

pub links_are : (ts : List ModuleText) (l : Links) (g : Graph) → links_in ts ≡ Ok g → l.graph ≡ g → l.linked ≡ true → AreLinks l ts
links_are ts l g e f t = record { graph = f ∙ sym (ap graph_or_none e); linked = t ∙ sym (ap is_ok e) }

pub no_links_are : (ts : List ModuleText) (l : Links) (f : Fault) → links_in ts ≡ Err f → l.graph ≡ no_graph → l.linked ≡ false → AreLinks l ts
no_links_are ts l f e g t = record { graph = g ∙ sym (ap graph_or_none e); linked = t ∙ sym (ap is_ok e) }

pub linked_refusal : (ts : List ModuleText) (g : Graph) → links_in ts ≡ Ok g → link_refusal ts ≡ None
linked_refusal ts g e = ap (refused_links ts) e

pub are_linked : (ts : List ModuleText) → link_refusal ts ≡ None → AreLinked ts
are_linked ts e = go (links_in ts) refl e
  where
    go : (r : Result Graph Fault) → links_in ts ≡ r → refused_links ts r ≡ None → AreLinked ts
    go (Ok g) f h = (g, f)
    go (Err f) k h = cc

pub is_graph : (ts : List ModuleText) (l : Links) → AreLinks l ts → l.linked ≡ true → links_in ts ≡ Ok l.graph
is_graph ts l a t = go (links_in ts) refl
  where
    go : (r : Result Graph Fault) → links_in ts ≡ r → links_in ts ≡ Ok l.graph
    go (Ok g) e = e ∙ ap Ok (sym (a.graph ∙ ap graph_or_none e))
    go (Err f) e = absurd (let z : true ≡ false = sym t ∙ a.linked ∙ ap is_ok e in cc)

-- ---- links that are not

pub no_main_refused : (ts : List ModuleText) → links_in ts ≡ Err fault.NoMain → link_refusal ts ≡ Some (Link [] 1 1 50)
no_main_refused ts e = ap (refused_links ts) e

pub fault_refused : (ts : List ModuleText) (place line code : ℕ) (r : DbRefusal) → IsFault place line code (links_in ts) → IsAt (slice_get ts place) line code r → link_refusal ts ≡ Some r
fault_refused ts place line code r f at = ap (refused_links ts) f.2 ∙ ap Some (sym (at f.0 f.1))

pub fault_of : (ts : List ModuleText) (place line code : ℕ) → IsFault place line code (links_in ts) → (f : Fault) × (links_in ts ≡ Err f)
fault_of ts place line code f = (fault.At place line f.0, f.2)
