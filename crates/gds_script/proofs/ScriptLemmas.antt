-- The lines of a script, taken off its text one after another.
use Rattle.std.proofs.Common.{◌≡◌, ℕ, List, [], ◌∷◌, ◌++◌, map, codes, None, Some, refl, ap, ◌∙◌, arith}
use Rattle.gds_lines.proofs.LineLemmas.{lines-first}
use Rattle.gds_lines.specs.Lines.{after_first_line, first_line, given, next_line}
use Rattle.gds_words.specs.Script.{Asks, epoch}
use Rattle.gds_script.specs.Script.{script_of}

some_line : (a b : List ℕ) → Some a ≡ Some b → a ≡ b
some_line a b e = cc

pub script_first : (text line : List ℕ) → next_line text ≡ Some line
    → script_of text ≡ line ∷ script_of (after_first_line text)
script_first [] line is = absurd (let no : None ≡ Some line = is in cc)
script_first (b ∷ bytes) line is =
    ap (λ all. map given all ++ codes "EPOCH" ∷ []) (lines-first (b ∷ bytes) (omega arith))
    ∙ ap (λ first. first ∷ script_of (after_first_line (b ∷ bytes)))
    (some_line (given (first_line (b ∷ bytes))) line is)

pub script_last : (text : List ℕ) → next_line text ≡ None → script_of text ≡ codes "EPOCH" ∷ []
script_last [] is = refl
script_last (b ∷ bytes) is = absurd (let no : Some (given (first_line (b ∷ bytes))) ≡ None = is in cc)

pub epoch_asks : Asks (codes "EPOCH") epoch
epoch_asks = record { len = omega arith; form = refl }
