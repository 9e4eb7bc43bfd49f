-- The modules of a base by their names.
use Rattle.std.proofs.Common.{◌≡◌, ℕ, zero, suc, List, [], ◌∷◌, map, Some, None, option_map, option_and_then, Bool, true, false, refl, sym, subst, ap, ◌∙◌, if◌then◌else◌}
use Rattle.std.specs.Prelude.{slice_get, unwrap_or, bytes_eq}
use Rattle.std.proofs.lemmas.Slice.Eq.{bytes_eq-Decides}
use Rattle.f77_ast.specs.Symbols.{number_from}
use Rattle.base_values.specs.Modules.{ModuleNames}
use Rattle.base_values.specs.Naming.{Each, AreBytes, AreNames}
use Rattle.base_values.proofs.Options.{and_then_some, map_some}
use Rattle.base_text.specs.declared.base.BaseModule.{BaseModule}
use Rattle.base_text.specs.declared.known.Known.{Known}
use Rattle.base_text.specs.Modules.{known, names_at, names_of, names_each, module_names_in, table_names, known_names}
use Rattle.base_text.specs.Written.{no_names, names_or_none, known_or_none}
use Rattle.base_text.specs.Grammar.{HasBytes}
use Rattle.base_text.proofs.Names.{module_has_names}
use Rattle.fx_lists.proofs.Lists.{slice_get-map as get_mapped}

-- ---- lists

pub each_got : {A : Type 0} (P : A → Type 0) (xs : List A) (i : ℕ) (x : A) → Each P xs → slice_get xs i ≡ Some x → P x
each_got P [] i x h e = cc
each_got P (y ∷ ys) zero x h e = let same : y ≡ x = cc in subst P same h.0
each_got P (y ∷ ys) (suc i) x h e = each_got P ys i x h.1 e

-- ---- tables, by names

pub place_missing : (k : Known) (x : List ℕ) → number_from 0 k.names x ≡ None → names_at (known_names k) x ≡ None
place_missing k x e = ap (option_and_then (slice_get (map table_names k.tables))) e

pub place_found : (k : Known) (x : List ℕ) (i : ℕ) → number_from 0 k.names x ≡ Some i → names_at (known_names k) x ≡ option_map table_names (slice_get k.tables i)
place_found k x i e = ap (option_and_then (slice_get (map table_names k.tables))) e ∙ get_mapped table_names k.tables i

-- ---- modules that are there

-- where each text is the one module of its name, this is what is known of them
pub all_known : (ms : List BaseModule) (ns : List ModuleNames) → names_each ms ≡ Some ns → map names_or_none ms ≡ ns
all_known [] ns e = cc
all_known (m ∷ ms) ns e =
    let a = and_then_some (λ n. option_map (λ more. n ∷ more) (names_each ms)) (names_of m) ns e in
    let b = map_some (λ more. a.0 ∷ more) (names_each ms) ns a.2 in
    ap (λ o. unwrap_or o no_names ∷ map names_or_none ms) a.1 ∙ (ap (λ more. a.0 ∷ more) (all_known ms b.0 b.1) ∙ b.2)

pub known_same : (ms : List BaseModule) (ns : List ModuleNames) → names_each ms ≡ Some ns → known_or_none ms ≡ known ms ns
known_same ms ns e = ap (known ms) (all_known ms ns e)

pub each_has_names : (ms : List BaseModule) (ns : List ModuleNames) → names_each ms ≡ Some ns → Each (λ (n : ModuleNames). AreNames n.names) ns
each_has_names [] [] e = tt
each_has_names [] (n ∷ ns) e = cc
each_has_names (m ∷ ms) ns e =
    let a = and_then_some (λ n. option_map (λ more. n ∷ more) (names_each ms)) (names_of m) ns e in
    let b = map_some (λ more. a.0 ∷ more) (names_each ms) ns a.2 in
    subst (Each (λ (n : ModuleNames). AreNames n.names)) b.2 (module_has_names m a.0 a.1, each_has_names ms b.0 b.1)

-- the symbols of a module that is known have names
pub found_names : (ms : List BaseModule) (ns : List ModuleNames) (x : List ℕ) (n : ModuleNames) → names_each ms ≡ Some ns → names_at (known ms ns) x ≡ Some n → AreNames n.names
found_names ms ns x n e f =
    let a = and_then_some (slice_get ns) (number_from 0 (module_names_in ms) x) n f in
    each_got (λ (k : ModuleNames). AreNames k.names) ns a.0 n (each_has_names ms ns e) a.2

-- a name that is found is one of bytes
pub found_bytes : (n : ℕ) (ms : List BaseModule) (x : List ℕ) (i : ℕ) → Each HasBytes ms → number_from n (module_names_in ms) x ≡ Some i → AreBytes x
found_bytes n [] x i h e = cc
found_bytes n (m ∷ ms) x i h e = go (bytes_eq x m.name) refl e (λ g. found_bytes (suc n) ms x i h.1 g)
  where
    go : (b : Bool) → bytes_eq x m.name ≡ b → (if b then Some n else number_from (suc n) (module_names_in ms) x) ≡ Some i → (number_from (suc n) (module_names_in ms) x ≡ Some i → AreBytes x) → AreBytes x
    go true f g ih = subst AreBytes (sym ((bytes_eq-Decides x m.name).0 f)) h.0.0
    go false f g ih = ih g

pub ruleset places = (place_missing, place_found)
