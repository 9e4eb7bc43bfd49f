-- CALLs by the names of what they call.
use Rattle.std.proofs.Common.{◌≡◌, ℕ, Bool, true, false, List, [], ◌∷◌, ◌++◌, Option, Some, None, refl, sym, ap, ◌∙◌, subst, append-nil, Vec, Global}
use Rattle.std.specs.Prelude.{if◌then◌else◌, bytes_eq, All}
use Rattle.std.proofs.lemmas.List.Elements.{All-push}
use Rattle.std.specs.Cmp.Lexicographic.{bytes_decides, nat_list_eq_equiv}
use Rattle.std.specs.HashMap.{HashMap, get_by, Updates, UpdatesBy}
use Rattle.std.specs.Map.{KeepsOthers}
use Rattle.std.specs.declared.hash.FoldHasher.{FoldHasher}
use Rattle.std.specs.declared.hash.BuildHasherDefault.{BuildHasherDefault}
use Rattle.call_translation.specs.declared.sites.CallSites.{CallSites}
use Rattle.call_translation.specs.Sites.{SiteTree, sites_in}
use Rattle.call_translation.specs.NamedSites.{sites_or_none}
use Rattle.f77_ast.proofs.MapLaws.{same_key}

-- ---- the map

abbrev Sites : Type 0 → Type 0
Sites T = HashMap (Vec ℕ Global) (CallSites T) (BuildHasherDefault FoldHasher)

abbrev at : {T : Type 0} → List ℕ → Sites T → Option (CallSites T)
at q m = get_by (λ l. bytes_eq q l.items) m

module _ {T : Type 0} (m n : Sites T) (x : List ℕ) where
  others_stay : KeepsOthers same_key (λ l. bytes_eq x l.items) m.entries n.entries → (q : List ℕ) → bytes_eq x q ≡ false → at q n ≡ at q m
  unfolding KeepsOthers
  others_stay h q e =
      h (λ l. bytes_eq q l.items) (λ a b. nat_list_eq_equiv.congr q a.items b.items)
      (λ l t. nat_list_eq_equiv.symm q l.items ∙ sym (nat_list_eq_equiv.congr x l.items q t) ∙ e)

  taken : UpdatesBy same_key (λ l. bytes_eq x l.items) m n None → (q : List ℕ) → sites_or_none (at q n) ≡ (if bytes_eq x q then [] else sites_or_none (at q m))
  taken h q = go (bytes_eq x q) refl
    where
      go : (b : Bool) → bytes_eq x q ≡ b → sites_or_none (at q n) ≡ (if b then [] else sites_or_none (at q m))
      go true e = subst (λ r. sites_or_none (at r n) ≡ []) ((bytes_decides x q).0 e) (ap sites_or_none h.1)
      go false e = ap sites_or_none (others_stay h.3 q e)

pub taken_at : {T : Type 0} (m n : Sites T) (y x : List ℕ) → UpdatesBy same_key (λ l. bytes_eq y l.items) m n None → y ≡ x → (q : List ℕ) → sites_or_none (at q n) ≡ (if bytes_eq x q then [] else sites_or_none (at q m))
taken_at m n y x h e q = taken m n y h q ∙ ap (λ z. if bytes_eq z q then [] else sites_or_none (at q m)) e

pub put : {T : Type 0} (m n : Sites T) (k : Vec ℕ Global) (x : List ℕ) (cs : CallSites T) → Updates same_key m n k (Some cs) → k.items ≡ x → (q : List ℕ) → sites_or_none (at q n) ≡ (if bytes_eq x q then sites_in cs else sites_or_none (at q m))
put m n k x cs h e q = go (bytes_eq k.items q) refl ∙ ap (λ y. if bytes_eq y q then sites_in cs else sites_or_none (at q m)) e
  where
    go : (b : Bool) → bytes_eq k.items q ≡ b → sites_or_none (at q n) ≡ (if b then sites_in cs else sites_or_none (at q m))
    go true s = subst (λ r. sites_or_none (at r n) ≡ sites_in cs) ((bytes_decides k.items q).0 s) (ap sites_or_none h.1)
    go false s = ap sites_or_none (others_stay m n k.items h.3 q s)

-- ---- one CALL more

-- the others of its name were taken, and are put back with it
pub added : {T : Type 0} (old mid new : List ℕ → List (SiteTree T)) (x : List ℕ) (cs ds : List (SiteTree T)) (s : SiteTree T) → cs ≡ old x → ((q : List ℕ) → mid q ≡ (if bytes_eq x q then [] else old q)) →
    ds ≡ cs ++ s ∷ [] → ((q : List ℕ) → new q ≡ (if bytes_eq x q then ds else mid q)) → (q : List ℕ) → new q ≡ old q ++ (if bytes_eq x q then s ∷ [] else [])
added old mid new x cs ds s c m d n q = n q ∙ go (bytes_eq x q) refl (m q)
  where
    go : (b : Bool) → bytes_eq x q ≡ b → mid q ≡ (if b then [] else old q) → (if b then ds else mid q) ≡ old q ++ (if b then s ∷ [] else [])
    go true e h = d ∙ ap (λ ys. ys ++ s ∷ []) (c ∙ ap old ((bytes_decides x q).0 e))
    go false e h = h ∙ sym (append-nil (old q))

-- what is true of each
pub all_added : {T : Type 0} (P : SiteTree T → Type 0) (old new : List ℕ → List (SiteTree T)) (x : List ℕ) (s : SiteTree T) → ((q : List ℕ) → new q ≡ old q ++ (if bytes_eq x q then s ∷ [] else [])) → ((q : List ℕ) → All P (old q)) → P s → (q : List ℕ) → All P (new q)
all_added P old new x s n h f q = subst (All P) (sym (n q)) (go (bytes_eq x q))
  where
    go : (b : Bool) → All P (old q ++ (if b then s ∷ [] else []))
    go true = All-push P (old q) s (h q) f
    go false = subst (All P) (sym (append-nil (old q))) (h q)
