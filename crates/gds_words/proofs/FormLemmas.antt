-- The verb of a line, and what stands behind it.
use Rattle.std.proofs.Common.{◌≡◌, ℕ, Bool, true, false, List, [], ◌∷◌, ◌++◌, drop, refl, sym, ap, ◌∙◌, subst}
use Rattle.std.proofs.Common.{codes, inl, inr, ◌⊎◌, ⊎_elim}
use Rattle.std.specs.Prelude.{◌==◌, if◌then◌else◌, Option, Some, None, is_some, IfNone}
use Rattle.std.proofs.lemmas.Bool.{false≢true}
use Rattle.m_key.specs.Node.{Node}
use Rattle.m_text.specs.Grammar.{IsReferenceText, IsNullReferenceText}
use Rattle.gds_words.specs.declared.verb.Verb.{Verb}
use Rattle.gds_words.specs.declared.verb.Verb.TheVariants.{Set, Kill, Get, Order, DataOf, Query}
use Rattle.gds_words.specs.Verb.{verb_text}
use Rattle.gds_words.specs.Script.{Request, set, kill, get, order, data_of, query, epoch, IsSetting, IsForm, Asks}

-- ---- requests by their verbs

abbrev pub request_with : Verb → Node → List ℕ → Bool → Request
request_with Set node value first = set node value
request_with Kill node value first = kill node
request_with Get node value first = get node
request_with Order node value first = order node first
request_with DataOf node value first = data_of node
request_with Query node value first = query node

abbrev pub IsOrder : List ℕ → Node → Bool → Type 0
IsOrder text node false = IsReferenceText text node
IsOrder text node true = IsNullReferenceText text node

-- the text stands behind the verb of such a request
abbrev pub IsBehind : Verb → List ℕ → Node → List ℕ → Bool → Type 0
IsBehind Set text node value first = IsSetting text node value
IsBehind Kill text node value first = IsReferenceText text node
IsBehind Get text node value first = IsReferenceText text node
IsBehind Order text node value first = IsOrder text node first
IsBehind DataOf text node value first = IsReferenceText text node
IsBehind Query text node value first = IsReferenceText text node

-- The line has a verb, and asks for this.
pub record HasVerb (line : List ℕ) (request : Request) : Type 0 where
  pub verb : Verb
  pub text : List ℕ
  pub node : Node
  pub value : List ℕ
  pub first : Bool
  pub written : line ≡ verb_text verb ++ text
  pub behind : IsBehind verb text node value first
  pub is : request ≡ request_with verb node value first

has : (verb : Verb) (line text : List ℕ) (node : Node) (value : List ℕ) (first : Bool) → line ≡ verb_text verb ++ text
    → IsBehind verb text node value first → HasVerb line (request_with verb node value first)
has v line text node value first e h = record {
  verb = v;
  text = text;
  node = node;
  value = value;
  first = first;
  written = e;
  behind = h;
  is = refl;
}

pub form_cases : (line : List ℕ) (request : Request) → IsForm line request
    → HasVerb line request ⊎ ((line ≡ codes "EPOCH") × (request ≡ epoch))
form_cases line (set node value) h = inl (has Set line h.0 node value false h.1 h.2)
form_cases line (kill node) h = inl (has Kill line h.0 node [] false h.1 h.2)
form_cases line (get node) h = inl (has Get line h.0 node [] false h.1 h.2)
form_cases line (order node false) h = inl (has Order line h.0 node [] false h.1 h.2)
form_cases line (order node true) h = inl (has Order line h.0 node [] true h.1 h.2)
form_cases line (data_of node) h = inl (has DataOf line h.0 node [] false h.1 h.2)
form_cases line (query node) h = inl (has Query line h.0 node [] false h.1 h.2)
form_cases line epoch h = inr (h, refl)

-- ---- the first byte of a line tells its verb

first_byte : List ℕ → ℕ
first_byte [] = 0
first_byte (b ∷ bs) = b

letter : Verb → ℕ
letter Set = 83
letter Kill = 75
letter Get = 71
letter Order = 79
letter DataOf = 68
letter Query = 81

verb_at : ℕ → Verb
verb_at n =
    if n == 83 then Set
    else (if n == 75 then Kill
    else (if n == 71 then Get
    else (if n == 79 then Order
    else (if n == 68 then DataOf
    else Query))))

letter_at : (verb : Verb) (text : List ℕ) → first_byte (verb_text verb ++ text) ≡ letter verb
unfolding first_byte letter
letter_at Set text = refl
letter_at Kill text = refl
letter_at Get text = refl
letter_at Order text = refl
letter_at DataOf text = refl
letter_at Query text = refl

verb_again : (verb : Verb) → verb_at (letter verb) ≡ verb
unfolding letter verb_at
verb_again Set = refl
verb_again Kill = refl
verb_again Get = refl
verb_again Order = refl
verb_again DataOf = refl
verb_again Query = refl

no_e : (verb : Verb) → (letter verb == 69) ≡ false
unfolding letter
no_e Set = refl
no_e Kill = refl
no_e Get = refl
no_e Order = refl
no_e DataOf = refl
no_e Query = refl

no_epoch : (verb : Verb) (text : List ℕ) → verb_text verb ++ text ≡ codes "EPOCH" → ⊥
unfolding first_byte
no_epoch v text e =
    let head : letter v ≡ 69 = sym (letter_at v text) ∙ ap first_byte e in
    false≢true (sym (no_e v) ∙ ap (λ (n : ℕ). n == 69) head)

same_verb : (v w : Verb) (s t : List ℕ) → verb_text v ++ s ≡ verb_text w ++ t → v ≡ w
same_verb v w s t e =
    sym (verb_again v) ∙ ap verb_at (sym (letter_at v s) ∙ ap first_byte e ∙ letter_at w t) ∙ verb_again w

same_text : (v : Verb) (s t : List ℕ) → verb_text v ++ s ≡ verb_text v ++ t → s ≡ t
same_text Set s t e = ap (drop 4) e
same_text Kill s t e = ap (drop 5) e
same_text Get s t e = ap (drop 4) e
same_text Order s t e = ap (drop 6) e
same_text DataOf s t e = ap (drop 5) e
same_text Query s t e = ap (drop 6) e

-- what a line asks for that begins with the verb
pub behind_verb : (v : Verb) (text : List ℕ) (request : Request) → (h : HasVerb (verb_text v ++ text) request)
    → IsBehind v text h.node h.value h.first × (request ≡ request_with v h.node h.value h.first)
behind_verb v text request h =
    let verbs : v ≡ h.verb = same_verb v h.verb text h.text h.written in
    let whole : verb_text v ++ text ≡ verb_text v ++ h.text =
    h.written ∙ ap (λ (w : Verb). verb_text w ++ h.text) (sym verbs) in
    let texts : text ≡ h.text = same_text v text h.text whole in
    let P : Verb → Type 0 = λ w. IsBehind w h.text h.node h.value h.first in
    let Q : List ℕ → Type 0 = λ t. IsBehind v t h.node h.value h.first in (
      subst Q (sym texts) (subst P (sym verbs) h.behind),
      h.is ∙ ap (λ (w : Verb). request_with w h.node h.value h.first) (sym verbs),
    )

-- nothing, where nothing right stands behind the verb
pub none_behind : (v : Verb) (text : List ℕ)
    → ((node : Node) (value : List ℕ) (first : Bool) → IsBehind v text node value first → ⊥) → (request : Request)
    → IsForm (verb_text v ++ text) request → ⊥
none_behind v text none request h =
    ⊎_elim
    (λ (x : HasVerb (verb_text v ++ text) request).
    none x.node x.value x.first (behind_verb v text request x).0)
    (λ (e : (verb_text v ++ text ≡ codes "EPOCH") × (request ≡ epoch)). no_epoch v text e.0)
    (form_cases (verb_text v ++ text) request h)

pub none_of : (verb v : Verb) (text : List ℕ) → verb ≡ v
    → ((node : Node) (value : List ℕ) (first : Bool) → IsBehind v text node value first → ⊥) → (request : Request)
    → IsForm (verb_text verb ++ text) request → ⊥
none_of verb v text is none =
    subst (λ (w : Verb). (request : Request) → IsForm (verb_text w ++ text) request → ⊥) (sym is)
    (none_behind v text none)

-- what follows from none, where both are none or neither is
pub none_alike : {A B P Q : Type 0} (o : Option A) (r : Option B) → is_some r ≡ is_some o → (P → Q) → IfNone o P
    → IfNone r Q
none_alike None None e f h = f h
none_alike None (Some y) e f h = absurd (false≢true (sym e))
none_alike (Some x) None e f h = absurd (false≢true e)
none_alike (Some x) (Some y) e f h = tt

pub none_ordered : (text : List ℕ) → ((node : Node) → IsReferenceText text node → ⊥)
    → ((node : Node) → IsNullReferenceText text node → ⊥) → (node : Node) (value : List ℕ) (first : Bool)
    → IsOrder text node first → ⊥
none_ordered text none no_null node value false h = none node h
none_ordered text none no_null node value true h = no_null node h

-- nothing, where the line has no verb and isn't `EPOCH`
pub none_asked : (line : List ℕ) → ((v : Verb) (text : List ℕ) → line ≡ verb_text v ++ text → ⊥)
    → (line ≡ codes "EPOCH" → ⊥) → (request : Request) → Asks line request → ⊥
none_asked line none no_epoch request h =
    ⊎_elim
    (λ (x : HasVerb line request). none x.verb x.text x.written)
    (λ (e : (line ≡ codes "EPOCH") × (request ≡ epoch)). no_epoch e.0)
    (form_cases line request h.form)

-- ---- a line asks for one thing

abbrev pub OneReference : Type 0
OneReference = (text : List ℕ) (a b : Node) → IsReferenceText text a → IsReferenceText text b → a ≡ b

abbrev pub OneNull : Type 0
OneNull = (text : List ℕ) (a b : Node) → IsNullReferenceText text a → IsNullReferenceText text b → a ≡ b

abbrev pub NullApart : Type 0
NullApart = (text : List ℕ) (a b : Node) → IsReferenceText text a → IsNullReferenceText text b → ⊥

abbrev pub OneSetting : Type 0
OneSetting =
    (text : List ℕ) (n m : Node) (v w : List ℕ) → IsSetting text n v → IsSetting text m w → (n ≡ m) × (v ≡ w)

one_order : OneReference → OneNull → NullApart → (text : List ℕ) (n m : Node) (f g : Bool) → IsOrder text n f
    → IsOrder text m g → order n f ≡ order m g
one_order one null apart text n m false false h k = ap (λ (x : Node). order x false) (one text n m h k)
one_order one null apart text n m false true h k = absurd (apart text n m h k)
one_order one null apart text n m true false h k = absurd (apart text m n k h)
one_order one null apart text n m true true h k = ap (λ (x : Node). order x true) (null text n m h k)

one_behind : OneSetting → OneReference → OneNull → NullApart → (v : Verb) (text : List ℕ) (n m : Node)
    (x y : List ℕ) (f g : Bool) → IsBehind v text n x f → IsBehind v text m y g
    → request_with v n x f ≡ request_with v m y g
one_behind setting one null apart Set text n m x y f g h k =
    let both = setting text n m x y h k in
    ap (λ (z : Node). set z x) both.0 ∙ ap (λ (z : List ℕ). set m z) both.1
one_behind setting one null apart Kill text n m x y f g h k = ap kill (one text n m h k)
one_behind setting one null apart Get text n m x y f g h k = ap get (one text n m h k)
one_behind setting one null apart Order text n m x y f g h k = one_order one null apart text n m f g h k
one_behind setting one null apart DataOf text n m x y f g h k = ap data_of (one text n m h k)
one_behind setting one null apart Query text n m x y f g h k = ap query (one text n m h k)

pub one_form : OneSetting → OneReference → OneNull → NullApart → (line : List ℕ) (a b : Request) → IsForm line a
    → IsForm line b → a ≡ b
one_form setting one null apart line a b h k =
    ⊎_elim
    (λ (x : HasVerb line a).
    ⊎_elim
    (λ (y : HasVerb line b).
    let other = subst (λ (t : List ℕ). HasVerb t b) x.written y in
    let is = behind_verb x.verb x.text b other in
    x.is
    ∙ one_behind setting one null apart x.verb x.text x.node other.node x.value other.value x.first other.first
    x.behind is.0 ∙ sym is.1)
    (λ (e : (line ≡ codes "EPOCH") × (b ≡ epoch)). absurd (no_epoch x.verb x.text (sym x.written ∙ e.0)))
    (form_cases line b k))
    (λ (e : (line ≡ codes "EPOCH") × (a ≡ epoch)).
    ⊎_elim
    (λ (y : HasVerb line b). absurd (no_epoch y.verb y.text (sym y.written ∙ e.0)))
    (λ (f : (line ≡ codes "EPOCH") × (b ≡ epoch)). e.1 ∙ sym f.1)
    (form_cases line b k))
    (form_cases line a h)
