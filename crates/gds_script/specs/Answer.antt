-- What a line of a script is answered, as a text.
use Rattle.std.specs.Prelude.{ℕ, List, [], ◌∷◌, ◌++◌, codes, flat_map}
use Rattle.std.specs.Fmt.{decimal}
use Rattle.m_key.specs.Reference.{node_of}
use Rattle.m_text.specs.Written.{reference_text, subscript_text, value_text}
use Rattle.gds_sound.specs.Questions as questions
use Rattle.gds_globals.specs.Questions.{next_of}
use Rattle.gds_script.specs.declared.answer.Answer.{Answer}
use Rattle.gds_script.specs.declared.answer.Answer.TheVariants.{BadLine, Data, Done, End, Epoch, Full, KeyTooLong}
use Rattle.gds_script.specs.declared.answer.Answer.TheVariants.{Next, Node, TnSpent, TooDeep, Undefined, Value}
use Rattle.gds_script.specs.declared.answer.Answer.TheVariants.{ValueTooLong}

-- what comes next on a level, as it is written in a reference
abbrev pub next_text : questions.Next → List ℕ
next_text (questions.name bytes) = 94 ∷ bytes
next_text (questions.subscript s) = subscript_text s

-- The greatest level of a root is 7.
abbrev pub answer_text : Answer → List ℕ
answer_text Done = codes "OK"
answer_text (KeyTooLong len) = codes "KEYTOOLONG " ++ decimal len
answer_text (ValueTooLong len) = codes "VALUETOOLONG " ++ decimal len
answer_text TnSpent = codes "TNSPENT"
answer_text (Full free) = codes "FULL " ++ decimal free
answer_text TooDeep = codes "TOODEEP 7"
answer_text (Value value) = codes "VALUE " ++ value_text value.items
answer_text Undefined = codes "UNDEF"
answer_text (Next next) = codes "NEXT " ++ next_text (next_of next)
answer_text End = codes "END"
answer_text (Data found) = codes "DATA " ++ decimal found
answer_text (Node reference) = codes "NODE " ++ reference_text (node_of reference)
answer_text (Epoch changes) = codes "EPOCH " ++ decimal changes
answer_text BadLine = codes "BADLINE"

-- byte 10 ends each
abbrev pub line_of : List ℕ → List ℕ
line_of text = text ++ 10 ∷ []

abbrev pub answer_line : Answer → List ℕ
answer_line answer = line_of (answer_text answer)

-- the lines of answers, one behind another
abbrev pub answer_lines : List Answer → List ℕ
answer_lines answers = flat_map answer_line answers
