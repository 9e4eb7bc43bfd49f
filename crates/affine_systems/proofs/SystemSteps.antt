-- Steps between systems and items.
use Rattle.std.proofs.Common.{◌≡◌, ℕ, suc, ◌+◌, Bool, false, ◌||◌, List, [], ◌∷◌, ◌++◌, length, reverse, arith, ap, ap₂, refl, sym, subst, ◌∙◌, append_assoc}
use Rattle.affine_systems.specs.declared.row.Row.{Row}
use Rattle.affine_systems.specs.declared.row.System.{System}
use Rattle.affine_systems.specs.declared.items.Item.{Item}
use Rattle.affine_systems.specs.declared.items.Tidied.{Tidied}
use Rattle.affine_systems.specs.Rows.{system, AllRows}
use Rattle.affine_systems.specs.Items.{no_originals, item, items_from, rows_of}
use Rattle.affine_systems.specs.Tidy.{tidy_items, tidy}
use Rattle.affine_systems.specs.Given.{IsGiven, Fits, ItemsGiven}
use Rattle.affine_systems.proofs.ItemSteps.{popped}
use Rattle.affine_systems.proofs.FitLaws.{tidy_fits}

pub items_from-push : (n : ℕ) (rs : List Row) (r : Row) → items_from n (rs ++ r ∷ []) ≡ items_from n rs ++ item r no_originals (n + length rs) ∷ []
items_from-push n [] r = let z : n ≡ n + 0 = omega arith in ap (λ m. item r no_originals m ∷ []) z
items_from-push n (s ∷ ss) r =
    let z : suc n + length ss ≡ n + suc (length ss) = omega arith in
    ap (λ (is : List Item). item s no_originals n ∷ is) (items_from-push (suc n) ss r ∙ ap (λ m. items_from (suc n) ss ++ item r no_originals m ∷ []) z)

-- rows taken from the end, and the items pushed for them
pub items_from-more : (left more all : List Row) (out new : List Item) (r : Row) (n : ℕ) → left ≡ more ++ r ∷ [] → n ≡ length more → new ≡ out ++ item r no_originals n ∷ [] → items_from 0 left ++ reverse out ≡ items_from 0 all → items_from 0 more ++ reverse new ≡ items_from 0 all
items_from-more left more all out new r n e m p h =
    let z : n ≡ 0 + length more = omega arith in
    ap (λ is. items_from 0 more ++ is) (popped new out (item r no_originals n) p)
    ∙ (sym (append_assoc (items_from 0 more) (item r no_originals n ∷ []) (reverse out))
    ∙ (ap (λ is. is ++ reverse out) (ap (λ k. items_from 0 more ++ item r no_originals k ∷ []) z ∙ (sym (items_from-push 0 more r) ∙ ap (items_from 0) (sym e))) ∙ h))

rows_of-push : (is : List Item) (i : Item) → rows_of (is ++ i ∷ []) ≡ rows_of is ++ i.row ∷ []
rows_of-push [] i = refl
rows_of-push (j ∷ js) i = ap (λ (rs : List Row). j.row ∷ rs) (rows_of-push js i)

pub rows_of-more : (left more all : List Item) (out new : List Row) (i : Item) → left ≡ more ++ i ∷ [] → new ≡ out ++ i.row ∷ [] → rows_of left ++ reverse out ≡ rows_of all → rows_of more ++ reverse new ≡ rows_of all
rows_of-more left more all out new i e p h =
    ap (λ rs. rows_of more ++ rs) (popped new out i.row p)
    ∙ (sym (append_assoc (rows_of more) (i.row ∷ []) (reverse out))
    ∙ (ap (λ rs. rs ++ reverse out) (sym (rows_of-push more i) ∙ ap rows_of (sym e)) ∙ h))

items_given : (n : ℕ) (rs : List Row) → AllRows IsGiven rs → ItemsGiven (items_from n rs)
items_given n [] h = tt
items_given n (r ∷ rs) h = (h.0, items_given (suc n) rs h.1)

pub items_given_from : (rs : List Row) (is : List Item) → AllRows IsGiven rs → is ≡ items_from 0 rs → ItemsGiven is
items_given_from rs is h e = subst ItemsGiven (sym e) (items_given 0 rs h)

pub system_is : (rs rows : List Row) (w weak : Bool) (is : List Item) (t : Tidied) → is ≡ items_from 0 rs → t ≡ tidy_items false is → rows ≡ rows_of t.items → weak ≡ (w || t.lost) → system rows weak ≡ tidy (system rs w)
system_is rs rows w weak is t e f g h =
    let x : t ≡ tidy_items false (items_from 0 rs) = f ∙ ap (tidy_items false) e in
    ap₂ (λ (ss : List Row) b. system ss b) (g ∙ ap (λ (u : Tidied). rows_of u.items) x) (h ∙ ap (λ (u : Tidied). w || u.lost) x)

pub system_fits_from : (rs : List Row) (w : Bool) (s : System) → AllRows IsGiven rs → s ≡ tidy (system rs w) → Fits s
system_fits_from rs w s h e = subst Fits (sym e) (tidy_fits (system rs w) (items_given 0 rs h))

pub ruleset tidied_system = (items_given_from, system_is, system_fits_from)
