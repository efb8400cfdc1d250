-- The order of the nodes that there are is total, and no two of them tie.
use Rattle.std.proofs.Common.{◌≡◌, ◌≢◌, ℕ, List, cond, not, Some, None, sym, ap, subst, ◌∙◌, is_eq}
use Rattle.std.proofs.lemmas.Bool.{false_from_ne_true}
use Rattle.std.specs.Ordering.{eq_by_cmp}
use Rattle.std.proofs.Props.{props}
use Rattle.std.proofs.lemmas.Cmp.{on_total, nat_list_cmp_total, tied_itself}
use Rattle.std.specs.Cmp.{IsTotalOrder}
use Rattle.std.specs.FinMap.{get, get-insert, get-retain_keys, IsAntisymmetric, slice_cmp-IsAntisymmetric}
use Rattle.std.specs.FinMap.{nat_cmp-IsAntisymmetric}
use mathlib.Core.HLevel.{Σ_prop_path}
use Rattle.m_key.specs.Node.{Node, NodeSubscript, number, string, IsSubscript, IsNode}
use Rattle.m_key.specs.Key.{key_bytes}
use Rattle.m_key.specs.Globals.{Place, place_cmp, Globals, set_value, kill, after, is_led}
use Rattle.m_key.specs.Collation.{Leads}
use Rattle.m_key.proofs.KeyLemmas.{is_equal, order, one_key, led_leads, leads_led}
use Rattle.m_key.proofs.NumberLemmas.{numbers}

IsSubscript-prop : (s : NodeSubscript) → IsProp (IsSubscript s)
IsSubscript-prop (number n) = hlevel props
IsSubscript-prop (string text) = hlevel props

IsNode-prop : (n : Node) → IsProp (IsNode n)
IsNode-prop n = hlevel (IsSubscript-prop, props)

pub same_place : (p q : Place) → p.node ≡ q.node → p ≡ q
same_place p q e =
    let pairs : ◌≡◌ {A = (n : Node) × IsNode n} (p.node, p.right) (q.node, q.right) = Σ_prop_path IsNode-prop e in
    λ i. record { node = (pairs i).0; right = (pairs i).1 }

pub place_total : IsTotalOrder place_cmp
place_total =
    subst IsTotalOrder (λ i p q. order numbers p.node q.node p.right q.right i)
    (on_total (λ p. key_bytes p.node) nat_list_cmp_total)

pub place_same : IsAntisymmetric place_cmp
place_same p q e =
    same_place p q (one_key numbers p.node q.node p.right q.right
    (slice_cmp-IsAntisymmetric nat_cmp-IsAntisymmetric (key_bytes p.node) (key_bytes q.node)
    (order numbers p.node q.node p.right q.right ∙ e)))

-- what a SET and a KILL make of the values
pub set_here : (m : Globals) (p : Place) (v : List ℕ) → get (after m (set_value p v)) p ≡ Some v
unfolding after
set_here m p v = get-insert place_total m p v p
    ∙ ap (λ b. cond b (Some v) (get m p)) (ap is_eq (tied_itself place_total p))

pub set_elsewhere : (m : Globals) (p q : Place) (v : List ℕ) → q ≢ p → get (after m (set_value p v)) q ≡ get m q
unfolding after
set_elsewhere m p q v other =
    get-insert place_total m p v q
    ∙ ap (λ b. cond b (Some v) (get m q)) (false_from_ne_true (eq_by_cmp place_cmp q p)
    (λ e. other (place_same q p (is_equal (place_cmp q p) e))))

kept_by : (m : Globals) (p q : Place) → get (after m (kill p)) q ≡ cond (not (is_led p.node q.node)) (get m q) None
unfolding after
kept_by m p q =
    get-retain_keys m (λ x. not (is_led p.node x.node)) q
    (λ x e. ap (λ y. not (is_led p.node y.node)) (sym (place_same q x e)))

pub killed : (m : Globals) (p q : Place) → Leads p.node q.node → get (after m (kill p)) q ≡ None
killed m p q h = kept_by m p q ∙ ap (λ b. cond (not b) (get m q) None) (leads_led numbers p.node q.node p.right h)

pub spared : (m : Globals) (p q : Place) → (Leads p.node q.node → ⊥) → get (after m (kill p)) q ≡ get m q
spared m p q h =
    kept_by m p q
    ∙ ap (λ b. cond (not b) (get m q) None) (false_from_ne_true (is_led p.node q.node)
    (λ e. h (led_leads numbers p.node q.node p.right q.right e)))
