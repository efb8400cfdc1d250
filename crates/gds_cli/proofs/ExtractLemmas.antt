-- Thin files as a whole: which reply is due, and what was said of it.
use Rattle.std.proofs.Common.{◌≡◌, ℕ, Bool, false, List, [], ◌∷◌, ◌++◌, take, flat_map, codes, IsTrue, Option, Some}
use Rattle.std.proofs.Common.{Result, Err, ⊎_elim, refl, sym, ap, subst, ◌∙◌}
use Rattle.std.specs.List.{starts_with, AllZip}
use Rattle.std.specs.Prelude.{nat_eq}
use Rattle.std.specs.FinMap.{entries, from_sorted}
use Rattle.host_model.specs.Files.{Contents}
use Rattle.m_key.specs.Globals.{Globals}
use Rattle.m_text.specs.Extract.{zwr, head_lines, zwr_node}
use Rattle.gds_header.specs.declared.header.Header.{Header}
use Rattle.gds_cli.specs.Thin.{IsThinWith}
use Rattle.gds_cli.specs.SoundHeader.{IsHeaderOf}
use Rattle.gds_cli.specs.Directory.{AreLeaves, FindsThin}
use Rattle.gds_cli.specs.Leaf.{IsLeafAt}
use Rattle.gds_cli.specs.Extract.{BreaksOff, ExtractEnds}
use Rattle.gds_cli.specs.Answer.{Reply, ExtractDue, not_built}
use Rattle.gds_cli.specs.declared.status.Status.TheVariants as ended
use Rattle.gds_cli.proofs.LeafLemmas.{thin_with, thin_entries, one_map}
use Rattle.gds_cli.proofs.SayingLemmas.{SaidFront, said_none, texts_of_lists}
use Rattle.gds_cli.proofs.DirectoryLemmas.{leaves_at}

-- the test's parts are thin files
pub finds : (d b : List ℕ) (h : Header) (leaves : List ℕ) → IsHeaderOf h d
    → IsTrue (starts_with nat_eq b (codes "GDSBIMG1" ++ 0 ∷ [])) → AreLeaves d leaves → FindsThin d b h leaves
finds d b h leaves head closed found = record {
  directory = found.directory;
  globals = found.globals;
  header = head;
  thin = record {
    sound = head.sound;
    closed = closed;
    star = found.star;
    leaf = found.leaf;
    each = found.each;
    distinct = found.distinct;
  };
  numbers = found.numbers;
}

pub not_closed : (d b : List ℕ) (m : Globals) → starts_with nat_eq b (codes "GDSBIMG1" ++ 0 ∷ []) ≡ false
    → IsThinWith d b m → ⊥
not_closed d b m open_gate thin = let closed = thin.thin.closed in cc

module _ (d b : List ℕ) (h : Header) (leaves : List ℕ) (found : FindsThin d b h leaves) where
  -- the map that they stand for
  pub the_map : Globals
  the_map = from_sorted (flat_map (λ vs. vs) found.globals)

  pub is_thin : IsThinWith d b the_map
  unfolding the_map
  is_thin = thin_with d b found.directory found.globals found.thin

  pub map_text : (m : Globals) (stamp : List ℕ) → IsThinWith d b m
      → zwr m stamp ≡ head_lines stamp (codes "ZWR") ++ flat_map (flat_map zwr_node) found.globals
  unfolding zwr the_map
  map_text m stamp thin =
      let same : m ≡ the_map = one_map d b m the_map thin is_thin in
      let nodes = ap entries same ∙ thin_entries d b found.directory found.globals found.thin in
      ap (λ es. head_lines stamp (codes "ZWR") ++ flat_map zwr_node es) nodes
      ∙ ap (λ t. head_lines stamp (codes "ZWR") ++ t) (texts_of_lists zwr_node found.globals)

  pub leaves_here : AllZip (IsLeafAt h d) leaves found.globals
  leaves_here =
      subst (λ (ns : List ℕ). AllZip (IsLeafAt h d) ns found.globals) (sym found.numbers)
      (leaves_at h d found.directory found.globals found.header found.thin.each)

  -- a front of what was said is one of the reply
  due_text : (stamp images said : List ℕ) (reply : Reply)
      → ExtractDue stamp (record { db = d; images = b; said = said }) reply
      → reply.text ≡ head_lines stamp (codes "ZWR") ++ flat_map (flat_map zwr_node) found.globals
  due_text stamp images said reply due =
      ⊎_elim
      (λ (p : (m : Globals) × IsThinWith d b m × (reply ≡ record { text = zwr m stamp; status = ended.Done })). ap
      (λ (r : Reply). r.text) p.2 ∙ map_text p.0 stamp p.1)
      (λ (p : ((m : Globals) → IsThinWith d b m → ⊥) × (reply ≡ not_built)). absurd (p.0 the_map is_thin))
      due

pub breaks_off : (stamp : List ℕ) (h : Header) (leaves : List ℕ) (c : Contents) (now : Option Contents)
    (found : FindsThin c.db c.images h leaves)
    → SaidFront c (head_lines stamp (codes "ZWR") ++ flat_map (flat_map zwr_node) found.globals) now
    → BreaksOff c (ExtractDue stamp c) now
breaks_off stamp h leaves c now found front = record {
  said = take front.0 (head_lines stamp (codes "ZWR") ++ flat_map (flat_map zwr_node) found.globals);
  told = front.1;
  front =
      λ reply due.
      (front.0, ap (take front.0) (sym (due_text c.db c.images h leaves found stamp c.images c.said reply due)));
}

-- nothing was said yet
pub breaks_before : (stamp : List ℕ) (c : Contents) (now : Option Contents) → now ≡ Some c
    → BreaksOff c (ExtractDue stamp c) now
breaks_before stamp c now same = record { said = []; told = said_none c now same; front = λ reply due. (0, refl) }

pub ends_err : {E : Type 0} (stamp : List ℕ) (c : Contents) (r : Result Bool E) (e : E) (now : Option Contents)
    → r ≡ Err e → BreaksOff c (ExtractDue stamp c) now → ExtractEnds stamp c r now
ends_err {E} stamp c r e now is breaks =
    let P : Result Bool E → Type 0 = λ x. ExtractEnds stamp c x now in subst P (sym is) breaks
