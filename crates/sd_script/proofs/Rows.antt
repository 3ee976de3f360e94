-- Worked examples of scripts, with their commands or their first faults.
use Rattle.std.proofs.Common.{◌≡◌, [], ◌∷◌, ◌++◌, refl, Ok, Err, pos, negsuc, true, false}
use Rattle.std.specs.Prelude.{codes}
use Rattle.sd_model.specs.Text.{number_text}
use Rattle.sd_model.specs.declared.trees.Operation.TheVariants.{Xor}
use Rattle.sd_script.specs.declared.command.Action.TheVariants.{Load, Output, Lit, Constant, Binary, Not}
use Rattle.sd_script.specs.declared.command.Action.TheVariants.{Drop, Same, Value, Write}
use Rattle.sd_base.specs.Lines.{numbered_lines_from}
use Rattle.sd_base.specs.Words.{lines_of}
use Rattle.sd_base.specs.FaultTexts.{at_line}
use Rattle.sd_script.specs.Scripts.{script_of, empty, after_lines, see, number_of_word, command_of}

-- ---- the first fault

-- its text, as the line of the end has it behind the name of the file
text_of_a_fault : at_line 12 (codes ": name unknown") ≡ codes ": line 12: name unknown"
unfolding number_text
text_of_a_fault = refl

unknown : script_of 2 0 (codes "and g a b\n") ≡ Err (at_line 1 (codes ": name unknown"))
unfolding script_of see number_of_word command_of
unknown = refl

taken : script_of 2 0 (codes "lit a 1\nlit a 2\n") ≡ Err (at_line 2 (codes ": name taken"))
unfolding script_of see number_of_word command_of
taken = refl

out_of_range : script_of 2 0 (codes "lit a 3\n") ≡ Err (at_line 1 (codes ": literal out of range"))
unfolding script_of see number_of_word command_of
out_of_range = refl

file_twice : script_of 2 0 (codes "vtree v\nvtree v\n") ≡ Err (at_line 2 (codes ": file named twice"))
unfolding script_of see number_of_word command_of
file_twice = refl

-- positions over four variables are 0 to 6
no_position : script_of 4 0 (codes "rotr 7\n") ≡ Err (at_line 1 (codes ": number out of range"))
unfolding script_of see number_of_word command_of
no_position = refl

-- blank lines and comments are counted
too_many_words : script_of 2 0 (codes "# a comment\n\nlit a 1 1\n") ≡ Err (at_line 3 (codes ": bad line"))
unfolding script_of see number_of_word command_of
too_many_words = refl

-- the form of a word is tested before its name
bits_of_a_wrong_length : script_of 2 0 (codes "value a 011\n") ≡ Err (at_line 1 (codes ": bad line"))
unfolding script_of see number_of_word command_of
bits_of_a_wrong_length = refl

-- an unknown name is told before one that is taken
unknown_before_taken : script_of 2 0 (codes "lit a 1\nnot a b\n") ≡ Err (at_line 2 (codes ": name unknown"))
unfolding script_of see number_of_word command_of
unknown_before_taken = refl

-- a name that is taken is told before a literal
taken_before_range : script_of 2 0 (codes "lit a 1\nlit a 9\n") ≡ Err (at_line 2 (codes ": name taken"))
unfolding script_of see number_of_word command_of
taken_before_range = refl

-- a name is not bound on its own line
unknown_itself : script_of 2 0 (codes "not a a\n") ≡ Err (at_line 1 (codes ": name unknown"))
unfolding script_of see number_of_word command_of
unknown_itself = refl

forgets_no_negation :
    script_of 2 0 (codes "lit a 1\nforget b a -1\n") ≡ Err (at_line 2 (codes ": literal out of range"))
unfolding script_of see number_of_word command_of
forgets_no_negation = refl

zero_is_no_literal : script_of 2 0 (codes "lit a -0\n") ≡ Err (at_line 1 (codes ": literal out of range"))
unfolding script_of see number_of_word command_of
zero_is_no_literal = refl

no_natural : script_of 2 0 (codes "swap -1\n") ≡ Err (at_line 1 (codes ": bad line"))
unfolding script_of see number_of_word command_of
no_natural = refl

no_natural_zero : script_of 2 0 (codes "swap -0\n") ≡ Err (at_line 1 (codes ": bad line"))
unfolding script_of see number_of_word command_of
no_natural_zero = refl

-- a byte past 126 stands in no command
no_such_byte : script_of 2 0 (codes "vtree " ++ 127 ∷ []) ≡ Err (at_line 1 (codes ": bad line"))
unfolding script_of see number_of_word command_of
no_such_byte = refl

unknown_once_dropped : script_of 2 0 (codes "lit a 1\ndrop a\nsize a\n") ≡ Err (at_line 3 (codes ": name unknown"))
unfolding script_of see number_of_word command_of
unknown_once_dropped = refl

-- line 100,001 is too many where it is blank too
line_past_the_last :
    after_lines 2 0 empty (numbered_lines_from 100000 (lines_of (codes "# one\n\n"))) ≡ Err (codes ": too many lines")
line_past_the_last = refl

-- an earlier line with a fault decides
fault_before_the_last_line :
    after_lines 2 0 empty (numbered_lines_from 100000 (lines_of (codes "one\n\n")))
    ≡ Err (at_line 100000 (codes ": bad line"))
unfolding command_of
fault_before_the_last_line = refl

-- outputs are counted from 0, so that there is none of the number of outputs
no_output : script_of 2 3 (codes "output a 3\n") ≡ Err (at_line 1 (codes ": number out of range"))
unfolding script_of see number_of_word command_of
no_output = refl

-- a formula has none
no_output_of_a_formula : script_of 2 0 (codes "output a 0\n") ≡ Err (at_line 1 (codes ": number out of range"))
unfolding script_of see number_of_word command_of
no_output_of_a_formula = refl

-- and a circuit has no formula
no_formula : script_of 2 1 (codes "lit a 1\ninput f\n") ≡ Err (at_line 2 (codes ": no formula"))
unfolding script_of see number_of_word command_of
no_formula = refl

-- which is told behind all other faults of its line
taken_before_no_formula : script_of 2 1 (codes "lit a 1\ninput a\n") ≡ Err (at_line 2 (codes ": name taken"))
unfolding script_of see number_of_word command_of
taken_before_no_formula = refl

-- ---- scripts without a fault

nothing : script_of 2 0 [] ≡ Ok empty
unfolding script_of see number_of_word command_of
nothing = refl

-- bytes past 126 stand in comments
any_byte_in_a_comment : script_of 2 0 (codes " #" ++ 127 ∷ 255 ∷ []) ≡ Ok empty
unfolding script_of see number_of_word command_of
any_byte_in_a_comment = refl

-- a name is free again, and keeps its number
freed : script_of 2 0 (codes "lit a 1\ndrop a\nlit b 1\nlit a -2\nwrite a in\n") ≡ Ok (record {
  commands = record { line = 1; action = Lit 0 (pos 1) }
      ∷ record { line = 2; action = Drop 0 }
      ∷ record { line = 3; action = Lit 1 (pos 1) }
      ∷ record { line = 4; action = Lit 0 (negsuc 1) }
      ∷ record { line = 5; action = Write (0 ∷ []) 0 }
      ∷ [];
  names = codes "a" ∷ codes "b" ∷ [];
  files = codes "in" ∷ [];
})
unfolding script_of see number_of_word command_of
freed = refl

compared : script_of 2 0 (codes "lit a 1\nxor c a a\nnot d c\ntrue t\nsame d t\nvalue a 01") ≡ Ok (record {
  commands = record { line = 1; action = Lit 0 (pos 1) }
      ∷ record { line = 2; action = Binary Xor 1 0 0 }
      ∷ record { line = 3; action = Not 2 1 }
      ∷ record { line = 4; action = Constant 3 true }
      ∷ record { line = 5; action = Same 2 3 }
      ∷ record { line = 6; action = Value 0 (false ∷ true ∷ []) }
      ∷ [];
  names = codes "a" ∷ codes "c" ∷ codes "d" ∷ codes "t" ∷ [];
  files = [];
})
unfolding script_of see number_of_word command_of
compared = refl

-- an output may be bound twice, by two names
outputs_bound : script_of 2 3 (codes "output a 2\noutput b 002\n") ≡ Ok (record {
  commands = record { line = 1; action = Output 0 2 } ∷ record { line = 2; action = Output 1 2 } ∷ [];
  names = codes "a" ∷ codes "b" ∷ [];
  files = [];
})
unfolding script_of see number_of_word command_of
outputs_bound = refl

-- a file may be loaded and written, and has one number
loaded_and_written : script_of 2 0 (codes "load a f\nwrite a f\n") ≡ Ok (record {
  commands = record { line = 1; action = Load 0 0 } ∷ record { line = 2; action = Write (0 ∷ []) 0 } ∷ [];
  names = codes "a" ∷ [];
  files = codes "f" ∷ [];
})
unfolding script_of see number_of_word command_of
loaded_and_written = refl

-- the names of a write stand in its order, one as often as it is named
written_together : script_of 2 0 (codes "lit a 1\nlit b 2\nwrite b a b f\n") ≡ Ok (record {
  commands = record { line = 1; action = Lit 0 (pos 1) }
      ∷ record { line = 2; action = Lit 1 (pos 2) }
      ∷ record { line = 3; action = Write (1 ∷ 0 ∷ 1 ∷ []) 0 }
      ∷ [];
  names = codes "a" ∷ codes "b" ∷ [];
  files = codes "f" ∷ [];
})
unfolding script_of see number_of_word command_of
written_together = refl

-- a write has a name
no_name : script_of 2 0 (codes "write f\n") ≡ Err (at_line 1 (codes ": bad line"))
unfolding script_of see number_of_word command_of
no_name = refl

-- each name of a write is bound
one_unknown : script_of 2 0 (codes "lit a 1\nwrite a b f\n") ≡ Err (at_line 2 (codes ": name unknown"))
unfolding script_of see number_of_word command_of
one_unknown = refl
