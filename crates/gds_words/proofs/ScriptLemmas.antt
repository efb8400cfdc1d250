-- What a line of a script asks for.
use Rattle.std.proofs.Common.{◌≡◌, ℕ, ◌-◌, ◌<◌, ◌≤◌, List, ◌∷◌, ◌++◌, length, take, drop, refl, sym, ap, ◌∙◌, subst}
use Rattle.std.proofs.Common.{arith, length-append, length-drop, true, false, Result, Ok, Err, Option, None, Some}
use Rattle.std.specs.Prelude.{bytes_eq, All, IfOk, IfSome, IfNone}
use Rattle.std.proofs.lemmas.List.{take_at, drop_at, take-append-drop, take_all}
use Rattle.std.proofs.lemmas.Slice.Eq.{bytes_eq-Decides}
use Rattle.m_key.specs.Node.{Node, IsNode}
use Rattle.m_text.specs.Grammar.{IsReferenceText, IsNullReferenceText, IsValueText}
use Rattle.m_text.specs.Written.{reference_text, null_reference_text, value_text}
use Rattle.m_text.proofs.ReferenceLemmas.{tail_of}
use Rattle.gds_words.specs.declared.script.TheConstants.{LINE_MAX}
use Rattle.gds_words.specs.declared.script.ScriptLine.{ScriptLine}
use Rattle.gds_words.specs.Script.{Request, set, kill, get, order, data_of, query, epoch, request_of, IsSetting, IsForm}
use Rattle.gds_words.specs.Script.{Asks, IsRight, request_text}
use Rattle.gds_words.proofs.SettingLemmas.{none_longer}
use Rattle.gds_words.proofs.FormLemmas.{OneReference, OneNull, NullApart, one_form}

-- ---- fronts

pub front_read : (front text rest : List ℕ) → bytes_eq (take (length front) text) front ≡ true
    → rest ≡ drop (length front) text → text ≡ front ++ rest
front_read front text rest same behind =
    sym (take-append-drop (length front) text)
    ∙ ap (λ (t : List ℕ). t ++ drop (length front) text) ((bytes_eq-Decides (take (length front) text) front).0 same)
    ∙ ap (λ (t : List ℕ). front ++ t) (sym behind)

pub behind_all : (len : ℕ) (text : List ℕ) → take (length text - len) (drop len text) ≡ drop len text
behind_all len text = take_all (length text - len) (drop len text) (omega (arith, length-drop len text))

-- ---- settings

-- the setting's reference stands at its front
pub front_named : (text : List ℕ) (node : Node) (value : List ℕ) → (s : IsSetting text node value)
    → IsReferenceText (take (length s.front) text) node
front_named text node value s =
    subst (λ (t : List ℕ). IsReferenceText t node)
    (sym (ap (take (length s.front)) s.written ∙ take_at s.front (61 ∷ s.back) (length s.front) refl)) s.named

-- A reference was read at the front of the text, of this length, and no longer one stands there.
pub record IsLongest (text : List ℕ) (len : ℕ) (node : Node) : Type 0 where
  pub within : len ≤ length text
  pub named : IsReferenceText (take len text) node
  pub longest : (n : ℕ) (other : Node) → n ≤ length text → IsReferenceText (take n text) other → n ≤ len

-- '=' and the setting's value stand behind it
pub behind_longest : (text : List ℕ) (len : ℕ) (read node : Node) (value : List ℕ) → IsLongest text len read
    → (s : IsSetting text node value) → drop len text ≡ 61 ∷ s.back
behind_longest text len read node value l s =
    let within : length s.front ≤ length text =
    omega (arith, ap length s.written ∙ length-append s.front (61 ∷ s.back)) in
    let most = none_longer text s.front s.back node read len s.written s.named l.within l.named in
    let least = l.longest (length s.front) node within (front_named text node value s) in
    let size : length s.front ≡ len = omega (arith, most, least) in
    ap (drop len) s.written ∙ drop_at s.front (61 ∷ s.back) len size

pub setting_read : (text back value : List ℕ) (len : ℕ) (node : Node) → IsReferenceText (take len text) node
    → drop len text ≡ 61 ∷ back → IsValueText back value → IsSetting text node value
setting_read text back value len node named behind meant = record {
  front = take len text;
  back = back;
  written = sym (take-append-drop len text) ∙ ap (λ (t : List ℕ). take len text ++ t) behind;
  named = named;
  meant = meant;
}

-- ---- a line asks for one thing

abbrev pub OneValue : Type 0
OneValue = (text a b : List ℕ) → IsValueText text a → IsValueText text b → a ≡ b

-- the longest reference at the front of a setting is its own
own_longest : (text : List ℕ) (node : Node) (value : List ℕ) → (s : IsSetting text node value)
    → IsLongest text (length s.front) node
own_longest text node value s = record {
  within = omega (arith, ap length s.written ∙ length-append s.front (61 ∷ s.back));
  named = front_named text node value s;
  longest = λ n other fits h. none_longer text s.front s.back node other n s.written s.named fits h;
}

one_setting : OneReference → OneValue → (text : List ℕ) (n m : Node) (v w : List ℕ) → IsSetting text n v
    → IsSetting text m w → (n ≡ m) × (v ≡ w)
one_setting one value text n m v w s t =
    let behind : 61 ∷ s.back ≡ 61 ∷ t.back =
    sym (behind_longest text (length s.front) n n v (own_longest text n v s) s)
    ∙ behind_longest text (length s.front) n m w (own_longest text n v s) t in
    let most = none_longer text s.front s.back n m (length t.front) s.written s.named
    (own_longest text m w t).within (front_named text m w t) in
    let least = none_longer text t.front t.back m n (length s.front) t.written t.named
    (own_longest text n v s).within (front_named text n v s) in
    let size : length t.front ≡ length s.front = omega (arith, most, least) in
    let P : ℕ → Type 0 = λ k. IsReferenceText (take k text) m in (
      one (take (length s.front) text) n m (front_named text n v s) (subst P size (front_named text m w t)),
      value s.back v w s.meant (subst (λ (b : List ℕ). IsValueText b w)
          (sym (tail_of 61 61 s.back t.back behind)) t.meant),
    )

pub one_request_lem : OneReference → OneValue → OneNull → NullApart → (line : List ℕ) (a b : Request)
    → Asks line a → Asks line b → a ≡ b
one_request_lem one value null apart line a b h k =
    one_form (one_setting one value) one null apart line a b h.form k.form

-- ---- what is read of a line

pub some_asked : {E : Type 0} (r : Result (Option ScriptLine) E) (line whole : List ℕ) → line ≡ whole
    → length line ≤ LINE_MAX → IfOk r (λ o. IfSome o (λ read. IsForm whole (request_of read)))
    → IfOk r (λ o. IfSome o (λ read. Asks line (request_of read)))
some_asked (Ok (Some read)) line whole e l h = record {
  len = l;
  form = subst (λ (t : List ℕ). IsForm t (request_of read)) (sym e) h;
}
some_asked (Ok None) line whole e l h = h
some_asked (Err error) line whole e l h = h

pub none_asks : {E : Type 0} (r : Result (Option ScriptLine) E) (line whole : List ℕ) → line ≡ whole
    → IfOk r (λ o. IfNone o ((request : Request) → IsForm whole request → ⊥))
    → IfOk r (λ o. IfNone o ((request : Request) → Asks line request → ⊥))
none_asks (Ok (Some read)) line whole e h = h
none_asks (Ok None) line whole e h =
    λ request asks. h request (subst (λ (t : List ℕ). IsForm t request) e asks.form)
none_asks (Err error) line whole e h = h

-- ---- what is written

abbrev pub Written : Type 0
Written = (node : Node) → IsNode node → IsReferenceText (reference_text node) node

setting_written : Written → ((value : List ℕ) → All (λ b. b < 256) value → IsValueText (value_text value) value)
    → (node : Node) (value : List ℕ) → IsNode node → All (λ b. b < 256) value
    → IsSetting (reference_text node ++ 61 ∷ value_text value) node value
setting_written written value_written node value h k = record {
  front = reference_text node;
  back = value_text value;
  written = refl;
  named = written node h;
  meant = value_written value k;
}

pub form_written : Written → ((value : List ℕ) → All (λ b. b < 256) value → IsValueText (value_text value) value)
    → ((node : Node) → IsNode node → length node.subscripts < 31
    → IsNullReferenceText (null_reference_text node) node) → (request : Request) → IsRight request
    → IsForm (request_text request) request
form_written written value null (set node v) h =
    (reference_text node ++ 61 ∷ value_text v, refl, setting_written written value node v h.0 h.1)
form_written written value null (kill node) h = (reference_text node, refl, written node h)
form_written written value null (get node) h = (reference_text node, refl, written node h)
form_written written value null (order node false) h = (reference_text node, refl, written node h)
form_written written value null (order node true) h = (null_reference_text node, refl, null node h.0 h.1)
form_written written value null (data_of node) h = (reference_text node, refl, written node h)
form_written written value null (query node) h = (reference_text node, refl, written node h)
form_written written value null epoch h = refl
