-- What a walk that goes on makes is what the whole walk would make.
use Rattle.std.proofs.Common.{List, [], ◌∷◌, ◌++◌, refl, sym, ◌∙◌}
use Rattle.session_texts.specs.roundtrip_programs.Laws.{TablesIgnorePlaces, GraphsIgnorePlaces}
use Rattle.session_texts.specs.pipsmake_rules.declared.key.Key.{Key}
use Rattle.session_texts.specs.pipsmake_rules.Laws.{StandBehindNeeds}
use Rattle.session_texts.proofs.PipsmakeRules.WalkLaws.{complete}
use Rattle.call_graph.specs.CallsIn.{Each}
use Rattle.session_texts.specs.pipsmake_meaning.Texts.{ModuleText, AreModules, names_in, graph_of}
use Rattle.session_texts.specs.pipsmake_meaning.Session.{Makings, UpToDate, MadeOf, made_now}
use Rattle.session_texts.specs.pipsmake_meaning.MemoCells.{MemoCells}
use Rattle.laws_database.specs.Stands.{Valuation, StandsFor}
use Rattle.laws_database.specs.Unverified.{value_with, IsWhole, RestsOn}
use Rattle.session_texts.specs.pipsmake_meaning.Making.{BringsAll}
use Rattle.laws_database.specs.Laws.{CanMake, walk_in, IsDefined}
use Rattle.laws_database.proofs.Stamps.{IsKnown}
use Rattle.laws_database.proofs.Keeping.{Facts, brought}
use Rattle.laws_database.proofs.Needs.{Can, has_value, has_text}
use Rattle.laws_database.proofs.Made.{rule_is}
use Rattle.laws_database.proofs.Rests.{rest_facts}
use Rattle.laws_database.proofs.Unverified.{IsKept, Rested, rested}
use Rattle.laws_database.proofs.Whole.{same_for, walk_can, graph_in_order}
use Rattle.pipsmake_db.proofs.WalkedLists.{new_of, still_holds, stand_on}
use Rattle.pipsmake_db.proofs.UpToDate.{each_map, each_join, each_new, each_held, up_stays, walk_is_current, made_whole}

-- what was walked: it is kept as it is defined and up to date, and each result stands behind its needs
pub record Covers (sh : MemoCells) (ts : List ModuleText) (made : Makings) (l : List Key) : Type 0 where
  pub known : Each (IsKnown sh ts) l
  pub order : StandBehindNeeds (names_in ts) (graph_of ts) l
  pub current : Each (UpToDate made ts) l

pub none_before : (ts : List ModuleText) → StandBehindNeeds (names_in ts) (graph_of ts) []
none_before ts [] k after e = cc
none_before ts (b ∷ bs) k after e = cc

pub covers_none : (sh : MemoCells) (ts : List ModuleText) (made : Makings) → Covers sh ts made []
covers_none sh ts made = record { known = tt; order = none_before ts; current = tt }

-- what the walk of one more result comes to
pub record Onward (new : MemoCells) (ts : List ModuleText) (made : Makings) (l walk now : List Key) : Type 0 where
  pub are_made : MadeOf made ts walk now
  pub stands : StandsFor new ts (made_now made ts now)
  pub covers : Covers new ts (made_now made ts now) (l ++ new_of l walk)
  pub defined : Each (IsDefined new ts) walk

module _ (tables_law : TablesIgnorePlaces) (graphs_law : GraphsIgnorePlaces) where
  facts : (ts : List ModuleText) (ms : AreModules ts) → Facts ts (Can ts ms)
  facts ts ms = record {
    has = has_text ts ms;
    some = has_value ts ms;
    rule = λ sh k v c h e. rule_is ts ms sh k c h ∙ e;
    same = λ k c old v mo e s. same_for tables_law graphs_law old ts mo ms k.kind k.name c v e s;
  }

  pub onward : (sh new : MemoCells) (ts : List ModuleText) (made : Makings) (l : List Key) (k : Key) (now : List Key) → CanMake ts k.kind k.name → StandsFor sh ts made → Covers sh ts made l →
      BringsAll sh ts (new_of l (walk_in ts k)) now new → Onward new ts made l (walk_in ts k) now
  onward sh new ts made l k now can stands covers b =
      let ms = stands.modules in
      let walk : List Key = walk_in ts k in
      let order = stand_on (names_in ts) (graph_of ts) l covers.order walk (complete (names_in ts) (graph_of ts) k (graph_in_order ts)).0 in
      let r = brought ts (Can ts ms) (facts ts ms) made (l ++ new_of l walk) order (new_of l walk) l [] sh new now refl (each_new (Can ts ms) l walk (walk_can ts ms k can)) (λ j e. cc) stands covers.known b in
      record {
        are_made = made_whole made ts l covers.current walk now r.are_made;
        stands = r.stands;
        covers = record {
          known = r.known;
          order = order;
          current = each_join (UpToDate (made_now made ts now) ts) l (new_of l walk)
              (each_map (UpToDate made ts) (UpToDate (made_now made ts now) ts) l (up_stays made ts now) covers.current)
              (walk_is_current made ts (new_of l walk) now r.are_made);
        };
        defined = each_map (IsKnown new ts) (IsDefined new ts) walk (λ n q. q.kept ∙ sym q.defined)
            (each_held (IsKnown new ts) (l ++ new_of l walk) walk r.known (λ n e. still_holds l walk n e));
      }

-- the same where what is kept rests on stored results, whatever they are
pub onward_stored : (sh new : MemoCells) (ts : List ModuleText) (stored : Valuation) (l : List Key) (k : Key) (now : List Key) → CanMake ts k.kind k.name → IsWhole ts stored → RestsOn sh ts (value_with ts stored) →
    StandBehindNeeds (names_in ts) (graph_of ts) l → Each (IsKept (value_with ts stored) sh) l → BringsAll sh ts (new_of l (walk_in ts k)) now new → Rested ts (value_with ts stored) (l ++ new_of l (walk_in ts k)) now new
onward_stored sh new ts stored l k now can whole rests order known b =
    let ms = rests.keeps.modules in
    let walk : List Key = walk_in ts k in
    let on = stand_on (names_in ts) (graph_of ts) l order walk (complete (names_in ts) (graph_of ts) k (graph_in_order ts)).0 in
    rested ts (value_with ts stored) (Can ts ms) (rest_facts ts stored ms whole) (l ++ new_of l walk) on (new_of l walk) l sh new now refl (each_new (Can ts ms) l walk (walk_can ts ms k can)) rests known b
