-- What the rules promise, and the walk along them.
use Rattle.std.specs.Prelude.{◌≡◌, ℕ, suc, Bool, true, false, ◌&&◌, ◌||◌, nat_lt, List, [], ◌∷◌, ◌++◌, if◌then◌else◌, bytes_eq}
use Rattle.std.specs.List.{list_any, list_all}
use Rattle.call_graph.specs.declared.graph.Graph.{Graph}
use Rattle.pipsmake_rules.specs.declared.kind.Kind.{Kind}
use Rattle.pipsmake_rules.specs.declared.table.Whose.{Whose}
use Rattle.pipsmake_rules.specs.declared.table.Whose.TheVariants.{Own, All, Callees, Callers}
use Rattle.pipsmake_rules.specs.declared.table.Rule.{Rule}
use Rattle.pipsmake_rules.specs.declared.table.TheConstants.{RULES}
use Rattle.pipsmake_rules.specs.declared.key.Key.{Key}
use Rattle.pipsmake_rules.specs.Kinds.{number_of, same_kind}
use Rattle.pipsmake_rules.specs.Table.{kinds_needed}
use Rattle.pipsmake_rules.specs.Keys.{holds}
use Rattle.pipsmake_rules.specs.Needs.{needs_of}
use Rattle.pipsmake_rules.specs.Walk.{walk_of}

-- ---- the table

abbrev pub is_earlier : Kind → Kind → Bool
is_earlier a b = nat_lt (number_of a) (number_of b)

-- what is needed of these modules is of an earlier kind, or of callees and of callers of the same
abbrev pub is_ranked : Whose → Kind → Kind → Bool
is_ranked Own kind need = is_earlier need kind
is_ranked All kind need = is_earlier need kind
is_ranked Callees kind need = is_earlier need kind || same_kind need kind
is_ranked Callers kind need = is_earlier need kind || same_kind need kind

abbrev pub has_kind : List Kind → Kind → Bool
has_kind ks k = list_any (λ j. same_kind j k) ks

-- each rule is ranked; and no kind needs itself of callees and of callers
abbrev pub RulesAreRanked : Type 0
RulesAreRanked =
    (list_all (λ r. is_ranked r.whose r.kind r.need) RULES ≡ true)
    × ((k : Kind) → (has_kind (kinds_needed k Callees) k && has_kind (kinds_needed k Callers) k) ≡ false)

-- ---- the walk

-- the place of a name in an order, from 0; for a name that is not there the place after the last
abbrev pub place_in : List (List ℕ) → List ℕ → ℕ
place_in [] x = 0
place_in (y ∷ ys) x = if bytes_eq y x then 0 else suc (place_in ys x)

-- by each CALL the callee has a place before that of the caller
abbrev pub is_bottom_up : Graph → Bool
is_bottom_up g = list_all (λ e. nat_lt (place_in g.order e.callee) (place_in g.order e.caller)) g.edges

-- each result of a list is new there, and stands behind its needs
abbrev pub StandBehindNeeds : List (List ℕ) → Graph → List Key → Type 0
StandBehindNeeds names g ks = (before : List Key) (k : Key) (after : List Key) → ks ≡ before ++ k ∷ after →
    (holds before k ≡ false) × (list_all (λ n. holds before n) (needs_of names g k) ≡ true)

abbrev pub EndsWith : List Key → Key → Type 0
EndsWith ks k = (before : List Key) × (ks ≡ before ++ k ∷ [])

-- where callees come before callers, a walk lists each result once, behind its needs, and ends with the one that is asked for
abbrev pub WalksAreComplete : Type 0
WalksAreComplete = (names : List (List ℕ)) (g : Graph) (k : Key) → is_bottom_up g ≡ true →
    StandBehindNeeds names g (walk_of names g k) × EndsWith (walk_of names g k) k
