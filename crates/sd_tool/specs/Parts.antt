-- The text of a line in parts.
use Rattle.std.specs.Prelude.{ℕ, List, [], ◌++◌, Option, Some, None}
use Rattle.sd_model.specs.Text.{number_text}
use Rattle.sd_tool.specs.declared.parts.LineParts.{LineParts}
use Rattle.sd_tool.specs.declared.parts.Parts.{Parts}

-- a number, if it is there
abbrev pub number_seen : Option ℕ → List ℕ
number_seen None = []
number_seen (Some n) = number_text n

-- the text of parts, one behind the other
abbrev pub parts_text : Parts → List ℕ
parts_text p =
    p.subject.now ++ p.before.now ++ number_seen p.first ++ p.between.now ++ number_seen p.second ++ p.after.now

-- one half of a line behind the other
abbrev pub line_text : LineParts → List ℕ
line_text l = parts_text l.front ++ parts_text l.back
