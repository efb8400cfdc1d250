-- How texts that are said one after another make one text.
use Rattle.std.proofs.Common.{◌≡◌, ℕ, zero, suc, ◌+◌, ◌<◌, List, [], ◌∷◌, ◌++◌, length, take, drop, get_or, min}
use Rattle.std.proofs.Common.{flat_map, Option, Some, None, Result, Ok, Err, refl, sym, ap, subst, ◌∙◌, append_assoc}
use Rattle.std.proofs.Common.{append-nil, take-append-drop, drop-cons, arith}
use Rattle.std.proofs.Math.Seq.{take-append-add, take-append_seam}
use Rattle.std.proofs.lemmas.List.{take-append-le, take_min, take_more, get_or_default}
use Rattle.std.specs.List.{AllZip}
use Rattle.host_model.specs.Files.{Contents, saying}
use Rattle.gds_cli.specs.Extract.{SaidOf, Waits}

-- some of the text was said
abbrev pub SaidFront : Contents → List ℕ → Option Contents → Type 0
SaidFront c text now = (n : ℕ) × (now ≡ Some (saying c (take n text)))

pub said_none : (c : Contents) (now : Option Contents) → now ≡ Some c → now ≡ Some (saying c [])
said_none c now same = same ∙ ap (λ (s : List ℕ). Some (record c { said = s })) (sym (append-nil c.said))

saying_twice : (c : Contents) (a b : List ℕ) → saying (saying c a) b ≡ saying c (a ++ b)
saying_twice c a b = ap (λ (s : List ℕ). record c { said = s }) (append_assoc c.said a b)

-- a text, and then another
pub said_both : (c : Contents) (now : Option Contents) (a b text : List ℕ) → now ≡ Some (saying (saying c a) b)
    → text ≡ a ++ b → now ≡ Some (saying c text)
said_both c now a b text same parts = same ∙ ap Some (saying_twice c a b ∙ ap (saying c) (sym parts))

-- a text, which is a front of the whole
pub front_whole : (c : Contents) (now : Option Contents) (a rest text : List ℕ) → now ≡ Some (saying c a)
    → text ≡ a ++ rest → SaidFront c text now
front_whole c now a rest text same parts =
    (length a, same ∙ ap (λ t. Some (saying c t)) (sym (ap (take (length a)) parts ∙ take-append_seam a rest)))

pub front_none : (c : Contents) (now : Option Contents) (text : List ℕ) → now ≡ Some c → SaidFront c text now
front_none c now text same = front_whole c now [] text text (said_none c now same) refl

-- a text, and then a front of what comes behind it
pub front_more : (c : Contents) (now : Option Contents) (a b rest text : List ℕ) → SaidFront (saying c a) b now
    → text ≡ a ++ (b ++ rest) → SaidFront c text now
front_more c now a b rest text front parts =
    let k = min front.0 (length b) in
    let here : take k (b ++ rest) ≡ take front.0 b = take-append-le k b rest (omega arith) ∙ take_min front.0 b in
    let whole : take (length a + k) text ≡ a ++ take front.0 b =
    ap (take (length a + k)) parts ∙ take-append-add a (b ++ rest) k ∙ ap (λ t. a ++ t) here in
    (length a + k, front.1 ∙ ap Some (saying_twice c a (take front.0 b) ∙ ap (saying c) (sym whole)))

module _ {X : Type 0} (f : X → List ℕ) where
  texts_append : (xs ys : List X) → flat_map f (xs ++ ys) ≡ flat_map f xs ++ flat_map f ys
  texts_append [] ys = refl
  texts_append (x ∷ xs) ys =
      ap (λ t. f x ++ t) (texts_append xs ys) ∙ sym (append_assoc (f x) (flat_map f xs) (flat_map f ys))

  texts_push : (xs : List X) (x : X) → flat_map f (xs ++ x ∷ []) ≡ flat_map f xs ++ f x
  texts_push xs x = texts_append xs (x ∷ []) ∙ ap (λ t. flat_map f xs ++ t) (append-nil (f x))

  -- the texts of one item more
  pub texts_more : (xs : List X) (i : ℕ) (x : X) → i < length xs → x ≡ get_or xs i x
      → flat_map f (take (i + 1) xs) ≡ flat_map f (take i xs) ++ f x
  texts_more xs i x within is =
      ap (flat_map f) (take_more xs i x within ∙ ap (λ y. take i xs ++ y ∷ []) (sym is)) ∙ texts_push (take i xs) x

  -- those before an item, its own, and those behind it
  pub texts_at : (xs : List X) (i : ℕ) (x : X) → i < length xs → x ≡ get_or xs i x
      → flat_map f xs ≡ flat_map f (take i xs) ++ (f x ++ flat_map f (drop (suc i) xs))
  texts_at xs i x within is =
      ap (flat_map f)
      (sym (take-append-drop i xs)
      ∙ ap (λ ys. take i xs ++ ys) (drop-cons xs i x within ∙ ap (λ y. y ∷ drop (suc i) xs) (sym is)))
      ∙ texts_append (take i xs) (x ∷ drop (suc i) xs)

-- the texts of several lists
pub texts_of_lists : {X : Type 0} (f : X → List ℕ) (xss : List (List X))
    → flat_map f (flat_map (λ xs. xs) xss) ≡ flat_map (flat_map f) xss
texts_of_lists f [] = refl
texts_of_lists f (xs ∷ xss) =
    texts_append f xs (flat_map (λ ys. ys) xss) ∙ ap (λ t. flat_map f xs ++ t) (texts_of_lists f xss)

-- what holds of two lists place by place holds at a place
pub zip_at : {A B : Type 0} (R : A → B → Type 0) (xs : List A) (ys : List B) (i : ℕ) (d : A) (e : B) → AllZip R xs ys
    → i < length xs → R (get_or xs i d) (get_or ys i e)
zip_at R [] [] i d e all within = absurd (omega arith)
zip_at R [] (y ∷ ys) i d e all within = absurd all
zip_at R (x ∷ xs) [] i d e all within = absurd all
zip_at R (x ∷ xs) (y ∷ ys) zero d e all within = all.0
zip_at R (x ∷ xs) (y ∷ ys) (suc i) d e all within = zip_at R xs ys i d e all.1 (omega arith)

pub zip_length : {A B : Type 0} (R : A → B → Type 0) (xs : List A) (ys : List B) → AllZip R xs ys
    → length xs ≡ length ys
zip_length R [] [] all = refl
zip_length R [] (y ∷ ys) all = absurd all
zip_length R (x ∷ xs) [] all = absurd all
zip_length R (x ∷ xs) (y ∷ ys) all = ap suc (zip_length R xs ys all.1)

-- ---- a part's result as the whole's

pub on_break : {T E : Type 0} (c : Contents) (text : List ℕ) (r : Result T E) (e : E) (now : Option Contents)
    → r ≡ Err e → SaidFront c text now → SaidOf c text r now
on_break {T} {E} c text r e now is front =
    let P : Result T E → Type 0 = λ x. SaidOf c text x now in subst P (sym is) front

-- a front of the first text
pub front_first : (c : Contents) (now : Option Contents) (a rest text : List ℕ) → SaidFront c a now → text ≡ a ++ rest
    → SaidFront c text now
front_first c now a rest text front parts =
    let k = min front.0 (length a) in
    let here : take k text ≡ take front.0 a =
    ap (take k) parts ∙ take-append-le k a rest (omega arith) ∙ take_min front.0 a in
    (k, front.1 ∙ ap (λ t. Some (saying c t)) (sym here))

-- the last text, behind what was said
pub said_last : {T E : Type 0} (c : Contents) (a b text : List ℕ) (r : Result T E) (now : Option Contents)
    → SaidOf (saying c a) b r now → text ≡ a ++ b → SaidOf c text r now
said_last c a b text (Ok x) now said parts = said_both c now a b text said parts
said_last c a b text (Err e) now said parts =
    front_more c now a b [] text said (parts ∙ ap (λ t. a ++ t) (sym (append-nil b)))

-- the text of the same nodes
pub said_same : {T E : Type 0} (c : Contents) (a b : List ℕ) (r : Result T E) (now : Option Contents) → a ≡ b
    → SaidOf c a r now → SaidOf c b r now
said_same {T} {E} c a b r now same said = let P : List ℕ → Type 0 = λ t. SaidOf c t r now in subst P same said

pub texts_split : {X : Type 0} (f : X → List ℕ) (xs : List X) (i : ℕ)
    → flat_map f xs ≡ flat_map f (take i xs) ++ flat_map f (drop i xs)
texts_split f xs i = ap (flat_map f) (sym (take-append-drop i xs)) ∙ texts_append f (take i xs) (drop i xs)

pub none_told : (told : Option Contents) → ((c : Contents) → told ≡ Some c → ⊥) → told ≡ None
none_told None none = refl
none_told (Some c) none = absurd (none c refl)

-- an item's line behind those before it, or a front of it
module _ {X : Type 0} (f : X → List ℕ) (c : Contents) (now : Option Contents) (xs : List X) (i : ℕ) (x : X)
    (line : List ℕ) (within : i < length xs) (is : x ≡ get_or xs i x) (text : line ≡ f x) where
  pub said_line : now ≡ Some (saying (saying c (flat_map f (take i xs))) line)
      → now ≡ Some (saying c (flat_map f (take (i + 1) xs)))
  said_line said =
      said_both c now (flat_map f (take i xs)) line (flat_map f (take (i + 1) xs)) said
      (texts_more f xs i x within is ∙ ap (λ t. flat_map f (take i xs) ++ t) (sym text))

  pub front_line : SaidFront (saying c (flat_map f (take i xs))) line now → SaidFront c (flat_map f xs) now
  front_line front =
      front_more c now (flat_map f (take i xs)) line (flat_map f (drop (suc i) xs)) (flat_map f xs) front
      (texts_at f xs i x within is ∙ ap (λ t. flat_map f (take i xs) ++ (t ++ flat_map f (drop (suc i) xs))) (sym text))

pub get_or_same : {X : Type 0} (xs : List (List X)) (i : ℕ) → i < length xs
    → get_or xs i [] ≡ get_or xs i (get_or xs i [])
get_or_same xs i within = get_or_default xs i [] (get_or xs i []) within

-- ---- a text of which a front was said and the rest waits

module _ (c : Contents) (now : Option Contents) (text waiting : List ℕ) (waits : Waits c text waiting now) where
  -- more is put behind it
  pub waits_more : (more longer whole : List ℕ) → longer ≡ waiting ++ more → whole ≡ text ++ more
      → Waits c whole longer now
  waits_more more longer whole behind parts = (
    waits.0,
    waits.1,
    parts ∙ ap (λ t. t ++ more) waits.2 ∙ append_assoc waits.0 waiting more ∙ ap (λ t. waits.0 ++ t) (sym behind),
  )

  -- some of it is said
  pub waits_less : (later : Option Contents) (left : List ℕ) → Waits (saying c waits.0) waiting left later
      → Waits c text left later
  waits_less later left said = (
    waits.0 ++ said.0,
    said_both c later waits.0 said.0 (waits.0 ++ said.0) said.1 refl,
    waits.2 ∙ ap (λ t. waits.0 ++ t) said.2 ∙ sym (append_assoc waits.0 said.0 left),
  )

  parts_of : (rest whole : List ℕ) → whole ≡ text ++ rest → whole ≡ waits.0 ++ (waiting ++ rest)
  parts_of rest whole parts = parts ∙ ap (λ t. t ++ rest) waits.2 ∙ append_assoc waits.0 waiting rest

  -- nothing more is said
  pub waits_front : (rest whole : List ℕ) → whole ≡ text ++ rest → SaidFront c whole now
  waits_front rest whole parts = front_whole c now waits.0 (waiting ++ rest) whole waits.1 (parts_of rest whole parts)

  -- a front of what waits is said
  pub waits_broken : (later : Option Contents) (rest whole : List ℕ) → SaidFront (saying c waits.0) waiting later
      → whole ≡ text ++ rest → SaidFront c whole later
  waits_broken later rest whole front parts =
      front_more c later waits.0 waiting rest whole front (parts_of rest whole parts)
