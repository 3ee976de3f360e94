-- Worked examples.
use Rattle.std.proofs.Common.{◌≡◌, ℕ, List, true, false, [], ◌∷◌, refl, ap, ◌∙◌, Result, Ok, Err, pos, negsuc}
use Rattle.std.specs.Prelude.{codes}
use Rattle.sd_model.specs.Diagram.{Diagram, Bottom, Literal, Decomposition, End, Pair}
use Rattle.sd_model.specs.Expression.{FileConstant, FileLiteral, FileDecomposition, expression_value}
use Rattle.sd_model.specs.Size.{completed}
use Rattle.sd_model.specs.Text.{number_text, roots_text, sdd_text}
use Rattle.sd_file.specs.Reads.{File, sdd_file, expression_of_file}
use Rattle.sd_file.specs.RoundTrip.{ReadsBack}

-- not compressed, ids with a gap, and ids of another vtree
elsewhere : sdd_file 2 (codes "c made elsewhere\nsdd 4\nL 0 9 1\nL 1 9 -1\nL 3 7 2\nD 2 8 2 0 3 1 3\n") ≡
    Ok (record {
      variables = 2;
      nodes = record { id = 0; node = (9, FileLiteral (pos 1)) }
          ∷ record { id = 1; node = (9, FileLiteral (negsuc 0)) } ∷ record { id = 3; node = (7, FileLiteral (pos 2)) }
          ∷ record { id = 2; node = (8, FileDecomposition ((0, 2) ∷ (1, 2) ∷ [])) } ∷ [];
    })
unfolding sdd_file
elsewhere = refl

two_stated : sdd_file 2 (codes "sdd 2\nT 0\n") ≡ Err (codes ": 2 stated, 1 found")
unfolding sdd_file number_text
two_stated = refl

no_nodes : sdd_file 2 (codes "sdd 0\n") ≡ Err (codes ": no nodes")
unfolding sdd_file
no_nodes = refl

unknown : sdd_file 2 (codes "sdd 1\nD 0 1 1 1 0\n") ≡ Err (codes ": line 2: child unknown")
unfolding sdd_file number_text
unknown = refl

none_found : sdd_file 2 (codes "sdd 5\n") ≡ Err (codes ": 5 stated, 0 found")
unfolding sdd_file number_text
none_found = refl

literal_zero : sdd_file 2 (codes "sdd 2\nT 0\nL 1 0 -0\n") ≡ Err (codes ": line 3: literal out of range")
unfolding sdd_file number_text
literal_zero = refl

no_pairs : sdd_file 2 (codes "sdd 2\nT 0\nD 1 1 0\n") ≡ Err (codes ": line 3: bad line")
unfolding sdd_file number_text
no_pairs = refl

id_twice : sdd_file 2 (codes "sdd 2\nT 0\nF 0\n") ≡ Err (codes ": line 3: id twice")
unfolding sdd_file number_text
id_twice = refl

-- ---- texts that are read back

-- the diagram of "1 and 2" over the vtree (1 2)
both : Diagram
both = Decomposition 1 (Pair (Literal 0 1 false) Bottom (Pair (Literal 0 1 true) (Literal 2 2 true) End))

-- its text
both_text : sdd_text both ≡ codes "sdd 5\nL 0 0 -1\nF 1\nL 2 0 1\nL 3 2 2\nD 4 1 2 0 1 2 3\n"
unfolding roots_text sdd_text completed number_text both
both_text = refl

-- which is read back
both_back : ReadsBack 2 (codes "sdd 5\nL 0 0 -1\nF 1\nL 2 0 1\nL 3 2 2\nD 4 1 2 0 1 2 3\n") both
unfolding sdd_file both
both_back = record {
  file = record {
    variables = 2;
    nodes = record { id = 0; node = (0, FileLiteral (negsuc 0)) } ∷ record { id = 1; node = (0, FileConstant false) }
        ∷ record { id = 2; node = (0, FileLiteral (pos 1)) } ∷ record { id = 3; node = (2, FileLiteral (pos 2)) }
        ∷ record { id = 4; node = (1, FileDecomposition ((0, 1) ∷ (2, 3) ∷ [])) } ∷ [];
  };
  reads = refl;
  value = λ assignment. refl;
}

-- the text of true is not one of false
true_not_false : ReadsBack 2 (codes "sdd 1\nT 0\n") Bottom → ⊥
unfolding sdd_file
true_not_false back =
    let file : File = record { variables = 2; nodes = record { id = 0; node = (0, FileConstant true) } ∷ [] } in
    let read : ◌≡◌ {A = Result File (List ℕ)} (Ok file) (Ok back.file) = back.reads in
    let is : file ≡ back.file = cc in
    let value : true ≡ false = ap (λ f. expression_value (expression_of_file f) []) is ∙ back.value [] in
    cc
