-- Modules as they are saved.
use Rattle.std.proofs.Common.{◌≡◌, ℕ, suc, ◌<◌, ◌≤◌, List, [], ◌∷◌, ◌++◌, length, map, get_or, refl, sym, ap, ◌∙◌, subst, append_assoc, append-nil}
use Rattle.pipsmake_db.specs.base_values.Naming.{Each, AreBytes}
use Rattle.base_text.specs.declared.base.BaseModule.{BaseModule}
use Rattle.base_text.specs.Grammar.{HasBytes}
use Rattle.pipsmake_db.specs.session_texts.declared.source.ModuleText.{ModuleText as Kept}
use Rattle.pipsmake_db.specs.session_texts.Modules.{text_record}
use Rattle.pipsmake_base.specs.Saving.{module_of, AreShort, HaveBytes}

pub all_bytes : (xs : List ℕ) → ((k : ℕ) → get_or xs k 0 < 256) → AreBytes xs
all_bytes [] h = tt
all_bytes (x ∷ xs) h = (h 0, all_bytes xs (λ k. h (suc k)))

abbrev pub as_module : Kept → BaseModule
as_module t = module_of (text_record t)

-- the first of these were copied, and these are left
pub record ModulesRest (all : List Kept) (ms : List BaseModule) (left : List Kept) : Type 0 where
  pub are : ms ++ map as_module left ≡ map as_module all
  pub short : AreShort ms
  pub bytes : HaveBytes ms

each_more : (P : BaseModule → Type 0) (ms : List BaseModule) (m : BaseModule) → Each P ms → P m → Each P (ms ++ m ∷ [])
each_more P [] m h p = (p, tt)
each_more P (n ∷ ms) m h p = (h.0, each_more P ms m h.1 p)

pub modules_none : (all : List Kept) → ModulesRest all [] all
modules_none all = record { are = refl; short = tt; bytes = tt }

pub modules_more : (all : List Kept) (ms ns : List BaseModule) (m : BaseModule) (t : Kept) (left : List Kept) → ModulesRest all ms (t ∷ left) → m ≡ as_module t → length m.text ≤ 16777216 → HasBytes m → ns ≡ ms ++ m ∷ [] → ModulesRest all ns left
modules_more all ms ns m t left r e s b p = record {
  are = ap (λ us. us ++ map as_module left) p ∙ append_assoc ms (m ∷ []) (map as_module left) ∙ ap (λ u. ms ++ u ∷ map as_module left) e ∙ r.are;
  short = subst AreShort (sym p) (each_more (λ (n : BaseModule). length n.text ≤ 16777216) ms m r.short s);
  bytes = subst HaveBytes (sym p) (each_more HasBytes ms m r.bytes b);
}

pub modules_all : (all : List Kept) (ms : List BaseModule) → ModulesRest all ms [] → ms ≡ map as_module all
modules_all all ms r = sym (append-nil ms) ∙ r.are

pub modules_mapped : (ts : List Kept) → map as_module ts ≡ map module_of (map text_record ts)
modules_mapped [] = refl
modules_mapped (t ∷ ts) = ap (λ us. as_module t ∷ us) (modules_mapped ts)
