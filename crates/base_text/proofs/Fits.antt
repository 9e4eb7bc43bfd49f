-- A base that is read is in the grammar.
use Rattle.std.proofs.Common.{◌≡◌, ℕ, ℤ, pos, ◌<◌, Bool, true, false, List, [], ◌∷◌, Option, Some, None, option_map, option_and_then, Result, Ok, Err, refl, sym, subst, if◌then◌else◌}
use Rattle.std.specs.Prelude.{codes, nat_lt, int_lt}
use Rattle.std.specs.Str.{chars}
use Rattle.std.proofs.lemmas.Bool.Decides.{Decides-ltb}
use Rattle.serde_json.specs.Data.{Data}
use Rattle.serde_json.specs.Find.{get, as_str}
use Rattle.session_texts.specs.pipsmake_rules.declared.kind.Kind.{Kind}
use Rattle.base_json.specs.Shapes.{has_members, member_as, list_as, when, is_latin, latin, text_of}
use Rattle.base_json.specs.Distinct.{are_new}
use Rattle.base_values.specs.Modules.{ModuleNames}
use Rattle.base_values.specs.Naming.{Each, AreBytes}
use Rattle.base_values.specs.Read.{stored_of}
use Rattle.base_values.specs.Sizes.{is_small_value}
use Rattle.base_values.proofs.Options.{and_then_some, map_some, when_some, if_some, then_read, map_read, if_read, when_read, each_map, each_both, each_all, list_read}
use Rattle.base_values.proofs.ReadLaws.{member_some, read_fits}
use Rattle.base_text.specs.declared.base.BaseModule.{BaseModule}
use Rattle.base_text.specs.declared.base.StoredResult.{StoredResult}
use Rattle.base_text.specs.declared.base.Base.{Base}
use Rattle.base_text.specs.declared.refusal.BaseRefusal.{BaseRefusal}
use Rattle.base_text.specs.declared.refusal.BaseRefusal.TheVariants.{WrongVersion, NumberTooBig}
use Rattle.base_text.specs.Modules.{KnownNames, known, known_in, names_at, names_each, module_names_in}
use Rattle.base_text.specs.declared.entries.Entry.{Entry}
use Rattle.base_text.specs.declared.entries.Entry.TheVariants.{Current, Old}
use Rattle.base_text.specs.declared.version.Version.{Version}
use Rattle.base_text.specs.Formats.{format_of}
use Rattle.base_text.specs.Order.{in_order_by, are_in_order}
use Rattle.base_text.specs.Entries.{kind_in, format_in, count_of, stored_result, entry_in, entry_with, entry_of, entry_name, entry_kind, entries_of, current, results_of}
use Rattle.base_text.specs.Read.{base_module, module_of, base, version_of, is_another, base_with, base_at, data_of, are_small, if_small, base_in, base_of}
use Rattle.base_text.specs.Grammar.{HasBytes, ResultFits, IsBase}
use Rattle.base_text.specs.Laws.{ReadIsInGrammar}
use Rattle.base_text.proofs.EntryLaws.{current_ordered}

-- ---- modules

latin_bytes : (t x : List ℕ) → latin t ≡ Some x → AreBytes x
latin_bytes t x e =
    let a = when_some (is_latin (chars t)) (chars t) x e in
    subst AreBytes a.1 (each_map (λ c. nat_lt c 256 ≡ true) (λ c. c < 256) (λ c q. (Decides-ltb c 256).0 q) (chars t) (each_all (λ c. nat_lt c 256) (chars t) a.0))

text_bytes : (d : Data) (x : List ℕ) → text_of d ≡ Some x → AreBytes x
text_bytes d x e = let a = and_then_some latin (as_str d) x e in latin_bytes a.0 x a.2

member_bytes : (k : List ℕ) (d : Data) (x : List ℕ) → member_as text_of k d ≡ Some x → AreBytes x
member_bytes k d x e = let a = member_some text_of k d x e in text_bytes a.0 x a.1

module_bytes : (d : Data) (m : BaseModule) → module_of d ≡ Some m → HasBytes m
module_bytes d m e =
    let a = if_some (has_members 2 d) _ m e in
    let b = and_then_some (λ x. option_map (base_module x) (member_as text_of (codes "text") d)) (member_as text_of (codes "name") d) m a.1 in
    let c = map_some (base_module b.0) (member_as text_of (codes "text") d) m b.2 in
    subst HasBytes c.2 (member_bytes (codes "name") d b.0 b.1, member_bytes (codes "text") d c.0 c.1)

-- ---- results

-- a result that is read fits where it is small
abbrev IfSmall : KnownNames → StoredResult → Type 0
IfSmall k r = is_small_value r.value ≡ true → ResultFits k r

abbrev EntryFits : KnownNames → Entry → Type 0
EntryFits k (Current r) = IfSmall k r
EntryFits k (Old x kind) = Unit {0}

in_fits : (k : KnownNames) (n : ModuleNames) (kind : Kind) (x : List ℕ) (f : ℤ) (d : Data) (e : Entry) → names_at k x ≡ Some n → entry_in n kind x f d ≡ Some e → EntryFits k e
in_fits k n kind x f d e at q = go (int_lt f (pos (format_of kind))) q
  where
    go : (b : Bool) → (if b then Some (Old x kind) else option_map (λ v. Current (stored_result x v)) (stored_of n kind d)) ≡ Some e → EntryFits k e
    go true h = let same : Old x kind ≡ e = cc in subst (EntryFits k) same tt
    go false h =
        map_read (EntryFits k) (λ v. Current (stored_result x v)) (stored_of n kind d) e h
        (λ v read small. record { names = n; of_module = at; fits = (read_fits n kind d v read small).1 })

with_format : (v : Version) (k : KnownNames) (d : Data) (kind : Kind) (x : List ℕ) (e : Entry) → entry_with v k d kind x ≡ Some e → EntryFits k e
with_format v k d kind x e q =
    then_read (EntryFits k e) (λ f. option_and_then (λ n. member_as (entry_in n kind x f) (codes "value") d) (names_at k x)) (format_in v d) e q (λ f eq e1.
    then_read (EntryFits k e) (λ n. member_as (entry_in n kind x f) (codes "value") d) (names_at k x) e e1 (λ n at e2.
    then_read (EntryFits k e) (entry_in n kind x f) (get (codes "value") d) e e2 (λ value there e3. in_fits k n kind x f value e at e3)))

entry_fits : (v : Version) (k : KnownNames) (d : Data) (e : Entry) → entry_of v k d ≡ Some e → EntryFits k e
entry_fits v k d e q =
    if_read (EntryFits k e) (has_members (count_of v) d) _ e q (λ e1.
    then_read (EntryFits k e) (λ kind. option_and_then (λ x. entry_with v k d kind x) (member_as text_of (codes "name") d)) (member_as kind_in (codes "kind") d) e e1 (λ kind ek e2.
    then_read (EntryFits k e) (λ x. entry_with v k d kind x) (member_as text_of (codes "name") d) e e2 (λ x ex e3. with_format v k d kind x e e3)))

current_fit : (k : KnownNames) (es : List Entry) → Each (EntryFits k) es → Each (IfSmall k) (current es)
current_fit k [] h = tt
current_fit k (Current r ∷ es) h = (h.0, current_fit k es h.1)
current_fit k (Old x kind ∷ es) h = current_fit k es h.1

record ReadResults (k : KnownNames) (rs : List StoredResult) : Type 0 where
  pub fit : are_small rs ≡ true → Each (ResultFits k) rs
  pub ordered : are_in_order k.names rs ≡ true

entries_fit : (k : KnownNames) (es : List Entry) → Each (EntryFits k) es → in_order_by entry_name entry_kind k.names es ≡ true → ReadResults k (current es)
entries_fit k es h e = record {
  fit = λ small. each_both (IfSmall k) (λ (r : StoredResult). is_small_value r.value ≡ true) (ResultFits k) (λ r f s. f s) (current es) (current_fit k es h) (each_all (λ (r : StoredResult). is_small_value r.value) (current es) small);
  ordered = current_ordered k.names es e;
}

results_fit : (v : Version) (k : KnownNames) (d : Data) (rs : List StoredResult) → results_of v k d ≡ Some rs → ReadResults k rs
results_fit v k d rs e =
    map_read (ReadResults k) current (entries_of v k d) rs e (λ es read.
    then_read (ReadResults k (current es)) (λ qs. when (in_order_by entry_name entry_kind k.names qs) qs) (list_as (entry_of v k) d) es read (λ qs each e1.
    when_read (λ ps. ReadResults k (current ps)) (in_order_by entry_name entry_kind k.names qs) qs es e1 (λ ordered.
    entries_fit k qs (list_read (entry_of v k) (EntryFits k) (entry_fits v k) d qs each) ordered)))

-- ---- a base

with_fits : (d : Data) (v : Version) (ms : List BaseModule) (b : Base) → Each HasBytes ms → base_with d v ms ≡ Some b → are_small b.results ≡ true → IsBase b
with_fits d v ms b bytes e small =
    let a = and_then_some (λ k. option_map (base ms) (member_as (results_of v k) (codes "results") d)) (known_in ms) b e in
    let k : KnownNames = a.0 in
    let c = map_some (base ms) (member_as (results_of v k) (codes "results") d) b a.2 in
    let n = if_some (are_new [] (module_names_in ms)) (option_map (known ms) (names_each ms)) k a.1 in
    let f = map_some (known ms) (names_each ms) k n.1 in
    let r = member_some (results_of v k) (codes "results") d c.0 c.1 in
    let read : ReadResults (known ms f.0) c.0 = subst (λ (j : KnownNames). ReadResults j c.0) (sym f.2) (results_fit v k r.0 c.0 r.1) in
    subst (λ (x : Base). are_small x.results ≡ true → IsBase x) c.2
    (λ s. record { bytes = bytes; found = f.0; are_modules = f.1; once = n.0; fit = read.fit s; ordered = read.ordered }) small

at_fits : (d : Data) (b : Base) → base_at d ≡ Some b → are_small b.results ≡ true → IsBase b
at_fits d b e small =
    if_read (IsBase b) (has_members 3 d) _ b e (λ e1.
    then_read (IsBase b) (λ v. option_and_then (base_with d v) (member_as (list_as module_of) (codes "modules") d)) (version_of d) b e1 (λ v ev e2.
    then_read (IsBase b) (base_with d v) (member_as (list_as module_of) (codes "modules") d) b e2 (λ ms em e3.
    let l = member_some (list_as module_of) (codes "modules") d ms em in
    with_fits d v ms b (list_read module_of HasBytes module_bytes l.0 ms l.1) e3 small)))

small_only : (t : Bool) (x b : Base) → (let r : Result Base BaseRefusal = if t then Ok x else Err NumberTooBig in r) ≡ Ok b → (t ≡ true) × (x ≡ b)
small_only true x b e = (refl, cc)
small_only false x b e = cc

if_small_fits : (d : Data) (o : Option Base) (b : Base) → base_at d ≡ o → if_small o ≡ Ok b → IsBase b
if_small_fits d None b h e = cc
if_small_fits d (Some x) b h e =
    let a = small_only (are_small x.results) x b e in
    subst IsBase a.1 (at_fits d x h a.0)

other_version : (t : Bool) (r : Result Base BaseRefusal) (b : Base) → (if t then Err WrongVersion else r) ≡ Ok b → r ≡ Ok b
other_version true r b e = cc
other_version false r b e = e

in_grammar : (o : Option Data) (b : Base) → base_in o ≡ Ok b → IsBase b
in_grammar None b e = cc
in_grammar (Some d) b e = if_small_fits d (base_at d) b refl (other_version (is_another d) (if_small (base_at d)) b e)

pub read_is_in_grammar : ReadIsInGrammar
unfolding base_of
read_is_in_grammar text b e = in_grammar (data_of text) b e
