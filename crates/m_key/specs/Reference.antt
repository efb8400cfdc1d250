-- What clauses see of a `Reference` and its parts.
use Rattle.std.specs.Prelude.{ℕ, ◌≤◌, List, map}
use Rattle.std.proofs.Common.{sym, ◌∙◌, subst}
use Rattle.std.proofs.lemmas.List.{length-map}
use Rattle.std.proofs.lemmas.List.Elements.{All-map}
use Rattle.m_number.specs.Number.{numeral_of}
use Rattle.m_key.specs.Node.{Node, NodeSubscript, number, string, IsSubscript, IsNode}
use Rattle.m_key.specs.Globals.{Place}
use Rattle.m_key.specs.declared.name.Name.{Name}
use Rattle.m_key.specs.declared.subscript.Text.{Text}
use Rattle.m_key.specs.declared.subscript.Subscript.{Subscript}
use Rattle.m_key.specs.declared.subscript.Subscript.TheVariants as variant
use Rattle.m_key.specs.declared.reference.Subscripts.{Subscripts}
use Rattle.m_key.specs.declared.reference.Reference.{Reference}

abbrev pub name_bytes : Name → List ℕ
name_bytes n = n.bytes.items

abbrev pub text_bytes : Text → List ℕ
text_bytes t = t.bytes.items

abbrev pub node_subscript_of : Subscript → NodeSubscript
node_subscript_of (variant.Num n) = number (numeral_of n)
node_subscript_of (variant.Text t) = string (text_bytes t)

abbrev pub subscript_list : Subscripts → List Subscript
subscript_list s = s.items.items

abbrev pub node_of : Reference → Node
node_of r = record { name = name_bytes r.name; subscripts = map node_subscript_of (subscript_list r.subscripts) }

pub is_subscript : (s : Subscript) → IsSubscript (node_subscript_of s)
is_subscript (variant.Num n) = n.is_numeral
is_subscript (variant.Text t) = t.is_text

-- each reference is of a node that there is
pub is_node : (r : Reference) → IsNode (node_of r)
is_node r = record {
  name = r.name.is_name;
  count = subst (λ (n : ℕ). n ≤ 31) (r.subscripts.items.ok.0
      ∙ sym (length-map (subscript_list r.subscripts) node_subscript_of)) r.subscripts.count;
  subscripts = All-map IsSubscript node_subscript_of (subscript_list r.subscripts) (λ k d h. is_subscript _);
}

abbrev pub place_of : Reference → Place
place_of r = record { node = node_of r; right = is_node r }
