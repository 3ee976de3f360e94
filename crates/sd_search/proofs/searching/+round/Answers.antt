use Rattle.std.proofs.Common.{◌∙◌, ◌++◌, ◌<◌, [], ◌∷◌, length, refl, sym, ap, subst, arith}
use Rattle.std.proofs.lemmas.Result.{IfOk-weaker, on_err_weaker}
use Rattle.sd_model.specs.declared.trees.Side.TheVariants.{Left, Right}
use Rattle.sd_vtree.specs.Numbered.{children_at, numbers, plain_tree}
use Rattle.sd_search.specs.Search.{IsRound}
use Rattle.sd_search.specs.Walking.{IsSizeOfHeld}
use Rattle.sd_search.specs.WalksInARow.{KeepThrough}
use Rattle.sd_search.proofs.AlongPaths.{along_same, along_at, along_both, along_up, place_along}
use Rattle.sd_search.proofs.KeptRoots.{kept_itself, kept_both}
use Rattle.sd_search.proofs.Rounds.{has_path, left_less, right_less, round_leaf, begun_none, are_then, begun_left}
use Rattle.sd_search.proofs.Rounds.{are_last}
use Rattle.sd_search.proofs.WalksOverTables.{keep_leaf, keep_rest, round_rest, keep_left, keep_right, keep_node}
use Rattle.sd_search.proofs.Rounds.{round_whole, begun_right, kids, kids_within, some_kids, kid_paths}
use Rattle.sd_sweep.proofs.NeverFalling.{never_same, never_both}
use Rattle.sd_search.proofs.searching.+round.Goals as goal

pub returns-in_default-clause-round : goal.returns-in_default-clause-round
returns-in_default-clause-round t c fs path held at =
    round_leaf fs c.args.slack c.args.m.now.vtree path c.args.place c.vtree.ensures.table.numbered at
    (c.in_default.ensures.children ∙ ap (λ v. children_at v c.args.place) c.vtree.ensures.vtree)

pub returns-in_default-clause-along : goal.returns-in_default-clause-along
returns-in_default-clause-along t c path at =
    along_same c.args.m.now.vtree path c.args.place at

pub returns-in_default-clause-kept : goal.returns-in_default-clause-kept
returns-in_default-clause-kept t c =
    kept_itself c.args.m.now c.vtree.ensures.table c.requires.no_move

pub returns-in-Err-clause-begun : goal.returns-in-Err-clause-begun
returns-in-Err-clause-begun t c fs path held at =
    begun_none fs c.args.slack c.args.m.now c.walk.new.m path c.in-Err.ensures.back

pub unwrap-first-requires : goal.unwrap-first-requires
unwrap-first-requires t c =
    let p = has_path c.args.m.now.vtree c.args.place c.vtree.ensures.table.numbered c.requires.place in
    some_kids c.vtree-2.result.now c.args.m.now.vtree c.walk.new.m.vtree c.children-2.result c.in-Some.field-0 p.0
    c.args.place
    c.vtree.ensures.table.numbered c.walk.ensures.table.numbered p.1 (c.walk.ensures.along p.0 p.1)
    (c.in-Some.ensures.children ∙ ap (λ v. children_at v c.args.place) c.vtree.ensures.vtree)
    c.children-2.ensures.children c.vtree-2.ensures.vtree

pub round-requires : goal.round-requires
round-requires t c =
    let p = has_path c.args.m.now.vtree c.args.place c.vtree.ensures.table.numbered c.requires.place in
    let less = left_less c.args.m.now.vtree c.walk.new.m.vtree p.0 c.args.place c.unwrap-first.result.0
    c.unwrap-first.result.1 c.vtree.ensures.table.numbered
    c.walk.ensures.table.numbered p.1 (c.walk.ensures.along p.0 p.1)
    (kids c.vtree-2.result.now c.walk.new.m.vtree c.children-2.result c.unwrap-first.result c.args.place
    c.unwrap-first.ensures
    c.children-2.ensures.children c.vtree-2.ensures.vtree) in (
      omega (arith, c.decreases, less),
      (
        c.walk.ensures.kept.no_move,
        (
          (kids_within c.vtree-2.result.now c.walk.new.m.vtree c.children-2.result c.unwrap-first.result
              c.unwrap-first.ensures
              c.vtree-2.ensures.vtree c.children-2.ensures.nodes).0,
          (
            subst (IsSizeOfHeld c.walk.new.m) (sym c.walked_to-walked.ensures.size) c.in-Ok.ensures.size,
            (
              keep_left c.args.slack c.args.place c.unwrap-first.result.0 c.unwrap-first.result.1 c.args.m.now
                  c.walk.new.m c.vtree.ensures.table c.walk.ensures.table c.requires.place c.walk.ensures.along
                  (kids c.vtree-2.result.now c.walk.new.m.vtree c.children-2.result c.unwrap-first.result c.args.place
                  c.unwrap-first.ensures c.children-2.ensures.children c.vtree-2.ensures.vtree)
                  c.args.so_far.kept c.args.so_far.size c.in-Ok.size c.walked_to-walked.result.kept
                  c.walk.ensures.kept c.requires.in_a_row c.in-Ok.ensures.walk c.walked_to-walked.ensures.kept
                  c.in-Ok.ensures.stays,
              (c.walk.ensures.unmarked, c.walk.ensures.serves),
            ),
          ),
        ),
      ),
    )

pub unwrap-second-requires : goal.unwrap-second-requires
unwrap-second-requires t c =
    let p = has_path c.args.m.now.vtree c.args.place c.vtree.ensures.table.numbered c.requires.place in
    some_kids c.vtree-3.result.now c.args.m.now.vtree c.round.new.m.vtree c.children-3.result c.in-Some.field-0 p.0
    c.args.place
    c.vtree.ensures.table.numbered c.round.ensures.table.numbered p.1
    (along_both c.args.m.now.vtree c.walk.new.m.vtree c.round.new.m.vtree p.0 (c.walk.ensures.along p.0 p.1)
    (along_up c.walk.new.m.vtree c.round.new.m.vtree p.0 Left (c.round.ensures.along (p.0 ++ Left ∷ [])
    (kid_paths c.walk.new.m.vtree p.0 c.args.place c.unwrap-first.result.0 c.unwrap-first.result.1
    c.walk.ensures.table.numbered (along_at c.args.m.now.vtree c.walk.new.m.vtree p.0 c.args.place
    (c.walk.ensures.along p.0 p.1) p.1)
    (kids c.vtree-2.result.now c.walk.new.m.vtree c.children-2.result c.unwrap-first.result c.args.place
    c.unwrap-first.ensures
    c.children-2.ensures.children c.vtree-2.ensures.vtree)).0)))
    (c.in-Some.ensures.children ∙ ap (λ v. children_at v c.args.place) c.vtree.ensures.vtree)
    c.children-3.ensures.children c.vtree-3.ensures.vtree

pub round-requires-2 : goal.round-requires-2
round-requires-2 t c =
    let p = has_path c.args.m.now.vtree c.args.place c.vtree.ensures.table.numbered c.requires.place in
    let less = right_less c.args.m.now.vtree c.round.new.m.vtree p.0 c.args.place c.unwrap-second.result.0
    c.unwrap-second.result.1 c.vtree.ensures.table.numbered
    c.round.ensures.table.numbered p.1
    (along_both c.args.m.now.vtree c.walk.new.m.vtree c.round.new.m.vtree p.0 (c.walk.ensures.along p.0 p.1)
    (along_up c.walk.new.m.vtree c.round.new.m.vtree p.0 Left (c.round.ensures.along (p.0 ++ Left ∷ [])
    (kid_paths c.walk.new.m.vtree p.0 c.args.place c.unwrap-first.result.0 c.unwrap-first.result.1
    c.walk.ensures.table.numbered (along_at c.args.m.now.vtree c.walk.new.m.vtree p.0 c.args.place
    (c.walk.ensures.along p.0 p.1) p.1)
    (kids c.vtree-2.result.now c.walk.new.m.vtree c.children-2.result c.unwrap-first.result c.args.place
    c.unwrap-first.ensures
    c.children-2.ensures.children c.vtree-2.ensures.vtree)).0)))
    (kids c.vtree-3.result.now c.round.new.m.vtree c.children-3.result c.unwrap-second.result c.args.place
    c.unwrap-second.ensures
    c.children-3.ensures.children c.vtree-3.ensures.vtree) in (
      omega (arith, c.decreases, less),
      (
        c.round.ensures.kept.no_move,
        (
          (kids_within c.vtree-3.result.now c.round.new.m.vtree c.children-3.result c.unwrap-second.result
              c.unwrap-second.ensures
              c.vtree-3.ensures.vtree c.children-3.ensures.nodes).1,
          (
            c.in-Ok-round.ensures.size,
            (
              keep_right c.args.slack c.args.place c.unwrap-first.result.0 c.unwrap-first.result.1 c.args.m.now
                  c.walk.new.m c.vtree.ensures.table c.walk.ensures.table c.requires.place c.walk.ensures.along
                  (kids c.vtree-2.result.now c.walk.new.m.vtree c.children-2.result c.unwrap-first.result c.args.place
                  c.unwrap-first.ensures c.children-2.ensures.children c.vtree-2.ensures.vtree)
                  c.unwrap-second.result.0 c.unwrap-second.result.1 c.in-Ok-round.left.kept c.round.new.m
                  c.round.ensures.table c.round.ensures.along
                  (kids c.vtree-3.result.now c.round.new.m.vtree c.children-3.result c.unwrap-second.result
                  c.args.place c.unwrap-second.ensures c.children-3.ensures.children c.vtree-3.ensures.vtree)
                  c.in-Ok-round.ensures.in_a_row,
              (c.round.ensures.unmarked, c.round.ensures.serves),
            ),
          ),
        ),
      ),
    )

pub returns-in-Err-round-clause-begun : goal.returns-in-Err-round-clause-begun
returns-in-Err-round-clause-begun t c fs path held at =
    begun_left fs c.args.slack c.args.m.now c.walk.new.m path c.args.place c.in-Some.field-0.0 c.in-Some.field-0.1
    c.vtree.ensures.table
    c.walk.ensures.table at (c.in-Some.ensures.children ∙ ap (λ v. children_at v c.args.place) c.vtree.ensures.vtree)
    c.walk.ensures.kept
    (c.walk.ensures.along path at) held (c.in-Ok.ensures.walk fs path held at) (plain_tree c.round.new.m.vtree)
    (c.in-Err-round.ensures.begun fs (path ++ Left ∷ [])
    (are_then fs c.args.slack c.args.m.now c.walk.new.m path c.args.place c.in-Some.field-0.0 c.in-Some.field-0.1
    c.vtree.ensures.table
    c.walk.ensures.table at (c.in-Some.ensures.children ∙ ap (λ v. children_at v c.args.place) c.vtree.ensures.vtree)
    c.walk.ensures.kept
    (c.walk.ensures.along path at) held (c.in-Ok.ensures.walk fs path held at))
    (kid_paths c.walk.new.m.vtree path c.args.place c.unwrap-first.result.0 c.unwrap-first.result.1
    c.walk.ensures.table.numbered (along_at c.args.m.now.vtree c.walk.new.m.vtree path c.args.place
    (c.walk.ensures.along path at) at)
    (kids c.vtree-2.result.now c.walk.new.m.vtree c.children-2.result c.unwrap-first.result c.args.place
    c.unwrap-first.ensures
    c.children-2.ensures.children c.vtree-2.ensures.vtree)).0)

pub returns-in-Err-round-clause-along : goal.returns-in-Err-round-clause-along
returns-in-Err-round-clause-along t c path at =
    along_both c.args.m.now.vtree c.walk.new.m.vtree c.round.new.m.vtree path (c.walk.ensures.along path at)
    (along_up c.walk.new.m.vtree c.round.new.m.vtree path Left (c.round.ensures.along (path ++ Left ∷ [])
    (kid_paths c.walk.new.m.vtree path c.args.place c.unwrap-first.result.0 c.unwrap-first.result.1
    c.walk.ensures.table.numbered (along_at c.args.m.now.vtree c.walk.new.m.vtree path c.args.place
    (c.walk.ensures.along path at) at)
    (kids c.vtree-2.result.now c.walk.new.m.vtree c.children-2.result c.unwrap-first.result c.args.place
    c.unwrap-first.ensures
    c.children-2.ensures.children c.vtree-2.ensures.vtree)).0))

pub returns-in-Err-round-clause-kept : goal.returns-in-Err-round-clause-kept
returns-in-Err-round-clause-kept t c =
    kept_both c.args.m.now c.walk.new.m c.round.new.m c.walk.ensures.table c.walk.ensures.kept c.round.ensures.kept

pub returns-clause-along : goal.returns-clause-along
returns-clause-along t c path at =
    along_both c.args.m.now.vtree c.round.new.m.vtree c.round-2.new.m.vtree path
    (along_both c.args.m.now.vtree c.walk.new.m.vtree c.round.new.m.vtree path (c.walk.ensures.along path at)
    (along_up c.walk.new.m.vtree c.round.new.m.vtree path Left (c.round.ensures.along (path ++ Left ∷ [])
    (kid_paths c.walk.new.m.vtree path c.args.place c.unwrap-first.result.0 c.unwrap-first.result.1
    c.walk.ensures.table.numbered (along_at c.args.m.now.vtree c.walk.new.m.vtree path c.args.place
    (c.walk.ensures.along path at) at)
    (kids c.vtree-2.result.now c.walk.new.m.vtree c.children-2.result c.unwrap-first.result c.args.place
    c.unwrap-first.ensures
    c.children-2.ensures.children c.vtree-2.ensures.vtree)).0)))
    (along_up c.round.new.m.vtree c.round-2.new.m.vtree path Right (c.round-2.ensures.along (path ++ Right ∷ [])
    (kid_paths c.round.new.m.vtree path c.args.place c.unwrap-second.result.0 c.unwrap-second.result.1
    c.round.ensures.table.numbered (along_at c.args.m.now.vtree c.round.new.m.vtree path c.args.place
    (along_both c.args.m.now.vtree c.walk.new.m.vtree c.round.new.m.vtree path (c.walk.ensures.along path at)
    (along_up c.walk.new.m.vtree c.round.new.m.vtree path Left (c.round.ensures.along (path ++ Left ∷ [])
    (kid_paths c.walk.new.m.vtree path c.args.place c.unwrap-first.result.0 c.unwrap-first.result.1
    c.walk.ensures.table.numbered (along_at c.args.m.now.vtree c.walk.new.m.vtree path c.args.place
    (c.walk.ensures.along path at) at)
    (kids c.vtree-2.result.now c.walk.new.m.vtree c.children-2.result c.unwrap-first.result c.args.place
    c.unwrap-first.ensures
    c.children-2.ensures.children c.vtree-2.ensures.vtree)).0))) at)
    (kids c.vtree-3.result.now c.round.new.m.vtree c.children-3.result c.unwrap-second.result c.args.place
    c.unwrap-second.ensures
    c.children-3.ensures.children c.vtree-3.ensures.vtree)).1))

pub returns-clause-kept : goal.returns-clause-kept
returns-clause-kept t c =
    kept_both c.args.m.now c.round.new.m c.round-2.new.m c.round.ensures.table
    (kept_both c.args.m.now c.walk.new.m c.round.new.m c.walk.ensures.table c.walk.ensures.kept c.round.ensures.kept)
    c.round-2.ensures.kept

pub returns-clause-round : goal.returns-clause-round
returns-clause-round t c fs path held at =
    IfOk-weaker c.round-2.result
    (λ _. IsRound fs c.args.slack (plain_tree c.round.new.m.vtree) (path ++ Right ∷ [])
    (plain_tree c.round-2.new.m.vtree))
    (λ _. IsRound fs c.args.slack (plain_tree c.args.m.now.vtree) path (plain_tree c.round-2.new.m.vtree))
    (λ _ h. round_whole fs c.args.slack c.args.m.now c.walk.new.m path c.args.place c.in-Some.field-0.0
    c.in-Some.field-0.1 c.vtree.ensures.table
    c.walk.ensures.table at (c.in-Some.ensures.children ∙ ap (λ v. children_at v c.args.place) c.vtree.ensures.vtree)
    c.walk.ensures.kept
    (c.walk.ensures.along path at) held (c.in-Ok.ensures.walk fs path held at) c.round.new.m c.round.ensures.table
    c.round.ensures.kept
    (c.round.ensures.along (path ++ Left ∷ [])
    (kid_paths c.walk.new.m.vtree path c.args.place c.unwrap-first.result.0 c.unwrap-first.result.1
    c.walk.ensures.table.numbered (along_at c.args.m.now.vtree c.walk.new.m.vtree path c.args.place
    (c.walk.ensures.along path at) at)
    (kids c.vtree-2.result.now c.walk.new.m.vtree c.children-2.result c.unwrap-first.result c.args.place
    c.unwrap-first.ensures
    c.children-2.ensures.children c.vtree-2.ensures.vtree)).0)
    (plain_tree c.round-2.new.m.vtree)
    (c.in-Ok-round.ensures.round fs (path ++ Left ∷ [])
    (are_then fs c.args.slack c.args.m.now c.walk.new.m path c.args.place c.in-Some.field-0.0 c.in-Some.field-0.1
    c.vtree.ensures.table
    c.walk.ensures.table at (c.in-Some.ensures.children ∙ ap (λ v. children_at v c.args.place) c.vtree.ensures.vtree)
    c.walk.ensures.kept
    (c.walk.ensures.along path at) held (c.in-Ok.ensures.walk fs path held at))
    (kid_paths c.walk.new.m.vtree path c.args.place c.unwrap-first.result.0 c.unwrap-first.result.1
    c.walk.ensures.table.numbered (along_at c.args.m.now.vtree c.walk.new.m.vtree path c.args.place
    (c.walk.ensures.along path at) at)
    (kids c.vtree-2.result.now c.walk.new.m.vtree c.children-2.result c.unwrap-first.result c.args.place
    c.unwrap-first.ensures
    c.children-2.ensures.children c.vtree-2.ensures.vtree)).0) h)
    (c.round-2.ensures.round fs (path ++ Right ∷ [])
    (are_last fs c.args.slack c.args.m.now c.walk.new.m path c.args.place c.in-Some.field-0.0 c.in-Some.field-0.1
    c.vtree.ensures.table
    c.walk.ensures.table at (c.in-Some.ensures.children ∙ ap (λ v. children_at v c.args.place) c.vtree.ensures.vtree)
    c.walk.ensures.kept
    (c.walk.ensures.along path at) held (c.in-Ok.ensures.walk fs path held at) c.round.new.m c.round.ensures.table
    c.round.ensures.kept
    (c.round.ensures.along (path ++ Left ∷ [])
    (kid_paths c.walk.new.m.vtree path c.args.place c.unwrap-first.result.0 c.unwrap-first.result.1
    c.walk.ensures.table.numbered (along_at c.args.m.now.vtree c.walk.new.m.vtree path c.args.place
    (c.walk.ensures.along path at) at)
    (kids c.vtree-2.result.now c.walk.new.m.vtree c.children-2.result c.unwrap-first.result c.args.place
    c.unwrap-first.ensures
    c.children-2.ensures.children c.vtree-2.ensures.vtree)).0))
    (kid_paths c.round.new.m.vtree path c.args.place c.unwrap-second.result.0 c.unwrap-second.result.1
    c.round.ensures.table.numbered (along_at c.args.m.now.vtree c.round.new.m.vtree path c.args.place
    (along_both c.args.m.now.vtree c.walk.new.m.vtree c.round.new.m.vtree path (c.walk.ensures.along path at)
    (along_up c.walk.new.m.vtree c.round.new.m.vtree path Left (c.round.ensures.along (path ++ Left ∷ [])
    (kid_paths c.walk.new.m.vtree path c.args.place c.unwrap-first.result.0 c.unwrap-first.result.1
    c.walk.ensures.table.numbered (along_at c.args.m.now.vtree c.walk.new.m.vtree path c.args.place
    (c.walk.ensures.along path at) at)
    (kids c.vtree-2.result.now c.walk.new.m.vtree c.children-2.result c.unwrap-first.result c.args.place
    c.unwrap-first.ensures
    c.children-2.ensures.children c.vtree-2.ensures.vtree)).0))) at)
    (kids c.vtree-3.result.now c.round.new.m.vtree c.children-3.result c.unwrap-second.result c.args.place
    c.unwrap-second.ensures
    c.children-3.ensures.children c.vtree-3.ensures.vtree)).1)

pub returns-clause-begun : goal.returns-clause-begun
returns-clause-begun t c fs path held at =
    on_err_weaker c.round-2.result
    (λ h. begun_right fs c.args.slack c.args.m.now c.walk.new.m path c.args.place c.in-Some.field-0.0
    c.in-Some.field-0.1 c.vtree.ensures.table
    c.walk.ensures.table at (c.in-Some.ensures.children ∙ ap (λ v. children_at v c.args.place) c.vtree.ensures.vtree)
    c.walk.ensures.kept
    (c.walk.ensures.along path at) held (c.in-Ok.ensures.walk fs path held at) c.round.new.m c.round.ensures.table
    c.round.ensures.kept
    (c.round.ensures.along (path ++ Left ∷ [])
    (kid_paths c.walk.new.m.vtree path c.args.place c.unwrap-first.result.0 c.unwrap-first.result.1
    c.walk.ensures.table.numbered (along_at c.args.m.now.vtree c.walk.new.m.vtree path c.args.place
    (c.walk.ensures.along path at) at)
    (kids c.vtree-2.result.now c.walk.new.m.vtree c.children-2.result c.unwrap-first.result c.args.place
    c.unwrap-first.ensures
    c.children-2.ensures.children c.vtree-2.ensures.vtree)).0)
    (plain_tree c.round-2.new.m.vtree)
    (c.in-Ok-round.ensures.round fs (path ++ Left ∷ [])
    (are_then fs c.args.slack c.args.m.now c.walk.new.m path c.args.place c.in-Some.field-0.0 c.in-Some.field-0.1
    c.vtree.ensures.table
    c.walk.ensures.table at (c.in-Some.ensures.children ∙ ap (λ v. children_at v c.args.place) c.vtree.ensures.vtree)
    c.walk.ensures.kept
    (c.walk.ensures.along path at) held (c.in-Ok.ensures.walk fs path held at))
    (kid_paths c.walk.new.m.vtree path c.args.place c.unwrap-first.result.0 c.unwrap-first.result.1
    c.walk.ensures.table.numbered (along_at c.args.m.now.vtree c.walk.new.m.vtree path c.args.place
    (c.walk.ensures.along path at) at)
    (kids c.vtree-2.result.now c.walk.new.m.vtree c.children-2.result c.unwrap-first.result c.args.place
    c.unwrap-first.ensures
    c.children-2.ensures.children c.vtree-2.ensures.vtree)).0) h)
    (c.round-2.ensures.begun fs (path ++ Right ∷ [])
    (are_last fs c.args.slack c.args.m.now c.walk.new.m path c.args.place c.in-Some.field-0.0 c.in-Some.field-0.1
    c.vtree.ensures.table
    c.walk.ensures.table at (c.in-Some.ensures.children ∙ ap (λ v. children_at v c.args.place) c.vtree.ensures.vtree)
    c.walk.ensures.kept
    (c.walk.ensures.along path at) held (c.in-Ok.ensures.walk fs path held at) c.round.new.m c.round.ensures.table
    c.round.ensures.kept
    (c.round.ensures.along (path ++ Left ∷ [])
    (kid_paths c.walk.new.m.vtree path c.args.place c.unwrap-first.result.0 c.unwrap-first.result.1
    c.walk.ensures.table.numbered (along_at c.args.m.now.vtree c.walk.new.m.vtree path c.args.place
    (c.walk.ensures.along path at) at)
    (kids c.vtree-2.result.now c.walk.new.m.vtree c.children-2.result c.unwrap-first.result c.args.place
    c.unwrap-first.ensures
    c.children-2.ensures.children c.vtree-2.ensures.vtree)).0))
    (kid_paths c.round.new.m.vtree path c.args.place c.unwrap-second.result.0 c.unwrap-second.result.1
    c.round.ensures.table.numbered (along_at c.args.m.now.vtree c.round.new.m.vtree path c.args.place
    (along_both c.args.m.now.vtree c.walk.new.m.vtree c.round.new.m.vtree path (c.walk.ensures.along path at)
    (along_up c.walk.new.m.vtree c.round.new.m.vtree path Left (c.round.ensures.along (path ++ Left ∷ [])
    (kid_paths c.walk.new.m.vtree path c.args.place c.unwrap-first.result.0 c.unwrap-first.result.1
    c.walk.ensures.table.numbered (along_at c.args.m.now.vtree c.walk.new.m.vtree path c.args.place
    (c.walk.ensures.along path at) at)
    (kids c.vtree-2.result.now c.walk.new.m.vtree c.children-2.result c.unwrap-first.result c.args.place
    c.unwrap-first.ensures
    c.children-2.ensures.children c.vtree-2.ensures.vtree)).0))) at)
    (kids c.vtree-3.result.now c.round.new.m.vtree c.children-3.result c.unwrap-second.result c.args.place
    c.unwrap-second.ensures
    c.children-3.ensures.children c.vtree-3.ensures.vtree)).1)

pub children-requires-2 : goal.children-requires-2
children-requires-2 t c =
    let p = has_path c.args.m.now.vtree c.args.place c.vtree.ensures.table.numbered c.requires.place in
    subst (λ v. c.args.place < length (numbers v)) (sym c.vtree-2.ensures.vtree)
    (place_along c.args.m.now.vtree c.walk.new.m.vtree p.0 c.args.place (c.walk.ensures.along p.0 p.1) c.requires.place)

pub children-requires-3 : goal.children-requires-3
children-requires-3 t c =
    let p = has_path c.args.m.now.vtree c.args.place c.vtree.ensures.table.numbered c.requires.place in
    subst (λ v. c.args.place < length (numbers v)) (sym c.vtree-3.ensures.vtree)
    (place_along c.args.m.now.vtree c.round.new.m.vtree p.0 c.args.place
    (along_both c.args.m.now.vtree c.walk.new.m.vtree c.round.new.m.vtree p.0 (c.walk.ensures.along p.0 p.1)
    (along_up c.walk.new.m.vtree c.round.new.m.vtree p.0 Left (c.round.ensures.along (p.0 ++ Left ∷ [])
    (kid_paths c.walk.new.m.vtree p.0 c.args.place c.unwrap-first.result.0 c.unwrap-first.result.1
    c.walk.ensures.table.numbered (along_at c.args.m.now.vtree c.walk.new.m.vtree p.0 c.args.place
    (c.walk.ensures.along p.0 p.1) p.1)
    (kids c.vtree-2.result.now c.walk.new.m.vtree c.children-2.result c.unwrap-first.result c.args.place
    c.unwrap-first.ensures
    c.children-2.ensures.children c.vtree-2.ensures.vtree)).0))) c.requires.place)

-- ---- walks in a row

pub returns-in_default-clause-in_a_row : goal.returns-in_default-clause-in_a_row
returns-in_default-clause-in_a_row t c =
    keep_leaf c.args.m.now c.args.slack c.args.place c.args.so_far.kept c.vtree.ensures.table c.requires.in_a_row
    (c.in_default.ensures.children ∙ ap (λ v. children_at v c.args.place) c.vtree.ensures.vtree)

pub returns-clause-in_a_row : goal.returns-clause-in_a_row
returns-clause-in_a_row t c =
    IfOk-weaker c.round-2.result
    (λ r. KeepThrough c.round-2.new.m c.args.slack c.unwrap-second.result.1 r.kept)
    (λ r. KeepThrough c.round-2.new.m c.args.slack c.args.place r.kept)
    (λ r. keep_node c.args.slack c.args.place c.unwrap-first.result.0 c.unwrap-first.result.1 c.args.m.now
    c.walk.new.m c.vtree.ensures.table c.walk.ensures.table c.requires.place c.walk.ensures.along
    (kids c.vtree-2.result.now c.walk.new.m.vtree c.children-2.result c.unwrap-first.result c.args.place
    c.unwrap-first.ensures c.children-2.ensures.children c.vtree-2.ensures.vtree)
    c.unwrap-second.result.0 c.unwrap-second.result.1 c.in-Ok-round.left.kept c.round.new.m
    c.round.ensures.table c.round.ensures.along
    (kids c.vtree-3.result.now c.round.new.m.vtree c.children-3.result c.unwrap-second.result
    c.args.place c.unwrap-second.ensures c.children-3.ensures.children c.vtree-3.ensures.vtree)
    c.round-2.new.m r.kept c.round-2.ensures.table c.round-2.ensures.along)
    c.round-2.ensures.in_a_row

pub returns-then-so_far-inner-clause-round : goal.returns-then-so_far-inner-clause-round
returns-then-so_far-inner-clause-round t c =
    round_rest c.args.m.now c.args.slack c.args.place c.args.so_far.kept c.inner_nodes-inner.ensures.table
    c.requires.in_a_row c.inner_nodes-inner.result c.inner_nodes-inner.ensures.count c.if-so_far-inner.true

pub returns-then-so_far-inner-clause-in_a_row : goal.returns-then-so_far-inner-clause-in_a_row
returns-then-so_far-inner-clause-in_a_row t c =
    keep_rest c.args.m.now c.args.slack c.args.place c.args.so_far.kept c.inner_nodes-inner.ensures.table
    c.requires.in_a_row c.inner_nodes-inner.result c.inner_nodes-inner.ensures.count c.if-so_far-inner.true

pub returns-then-so_far-inner-clause-along : goal.returns-then-so_far-inner-clause-along
returns-then-so_far-inner-clause-along t c path at =
    along_same c.args.m.now.vtree path c.args.place at

pub returns-then-so_far-inner-clause-kept : goal.returns-then-so_far-inner-clause-kept
returns-then-so_far-inner-clause-kept t c =
    kept_itself c.args.m.now c.inner_nodes-inner.ensures.table c.requires.no_move

-- ---- what never falls

pub returns-then-so_far-inner-clause-never_falls : goal.returns-then-so_far-inner-clause-never_falls
returns-then-so_far-inner-clause-never_falls t c = never_same c.args.m.now c.args.m.now refl

pub returns-in_default-clause-never_falls : goal.returns-in_default-clause-never_falls
returns-in_default-clause-never_falls t c = never_same c.args.m.now c.args.m.now refl

pub returns-in-Err-round-clause-never_falls : goal.returns-in-Err-round-clause-never_falls
returns-in-Err-round-clause-never_falls t c =
    never_both c.args.m.now c.walk.new.m c.round.new.m c.walk.ensures.never_falls c.round.ensures.never_falls

pub returns-clause-never_falls : goal.returns-clause-never_falls
returns-clause-never_falls t c =
    never_both c.args.m.now c.walk.new.m c.round-2.new.m c.walk.ensures.never_falls
    (never_both c.walk.new.m c.round.new.m c.round-2.new.m c.round.ensures.never_falls
    c.round-2.ensures.never_falls)
