-- What each crash leaves now, and what was said then.
use Rattle.std.proofs.Common.{◌≡◌, ℕ, ◌≤◌, List}
use Rattle.host_model.specs.Files.{Contents}
use Rattle.host_model.specs.Moments.{EachLeft, LeavesOnly}
use Rattle.m_key.specs.Globals.{Globals}
use Rattle.gds_script.specs.Finding.{FindsOne}

-- So much was said, as the files tell.
pub one_text : (P : Globals → Type 0) (text said : List ℕ) (c : Contents) → FindsOne P text c → c.said ≡ said
    → FindsOne P said c
one_text P text said c one is = record {
  map = one.map;
  has = one.has;
  finds = record {
    image = one.finds.image;
    recovers = one.finds.recovers;
    stands = one.finds.stands;
    said = is;
  };
}

-- What a crash now leaves is among what one at any moment on the way leaves.
pub each_now : {H : Type 0} (moment : H → ℕ) (left_since : H → ℕ → Contents → Type 0)
    → ((host : H) (t u : ℕ) (c : Contents) → t ≤ u → left_since host u c → left_since host t c)
    → (old new : H) (P : Contents → Type 0) → LeavesOnly moment left_since old new P
    → EachLeft moment left_since new P
each_now moment left_since longer old new P only c left =
    only.each c (longer new (moment old) (moment new) c only.later left)
