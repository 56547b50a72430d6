use Rattle.iova.proofs.Names.{rules, ◌∙◌, sym, ap, arith, nat_lt, IsPartitionPoint-from_clause, Free}
use Rattle.iova.proofs.carvings.PieceAt.{at_point, none_at_point, ends_parted, follow_ordered}
use Rattle.iova.proofs.carved.search.Goals as goal

pub returns-in_err-piece : goal.returns-in_err-piece
returns-in_err-piece c =
    let o = follow_ordered c.requires.0 c.args.pieces.now c.requires.1 c.requires.2 in
    let parted = IsPartitionPoint-from_clause (λ p. nat_lt p.last c.args.page) c.args.pieces.now c.partition_point-at.result
    c.partition_point-at.ensures.partitioned (ends_parted c.requires.0 c.args.pieces.now c.args.page o) (λ a r f' k. search rules) in
    let none = none_at_point c.requires.0 c.args.pieces.now c.args.page c.partition_point-at.result
    (record { first = 0; last = 0; state = Free }) o parted (λ l. omega (arith, c.in_err-piece.ensures.lookup)) in
    c.from_residual.ensures ∙ sym none

pub returns-then-piece-page : goal.returns-then-piece-page
returns-then-piece-page c =
    let o = follow_ordered c.requires.0 c.args.pieces.now c.requires.1 c.requires.2 in
    let parted = IsPartitionPoint-from_clause (λ p. nat_lt p.last c.args.page) c.args.pieces.now c.partition_point-at.result
    c.partition_point-at.ensures.partitioned (ends_parted c.requires.0 c.args.pieces.now c.args.page o) (λ a r f' k. search rules) in
    let item = c.in_ok-piece.ensures.lookup in
    sym (at_point c.requires.0 c.args.pieces.now c.args.page c.partition_point-at.result c.in_ok-piece.piece.now o parted item.3.0 item.1
    c.if-piece-page.true)

pub returns : goal.returns
returns c =
    let o = follow_ordered c.requires.0 c.args.pieces.now c.requires.1 c.requires.2 in
    let parted = IsPartitionPoint-from_clause (λ p. nat_lt p.last c.args.page) c.args.pieces.now c.partition_point-at.result
    c.partition_point-at.ensures.partitioned (ends_parted c.requires.0 c.args.pieces.now c.args.page o) (λ a r f' k. search rules) in
    let first = ap (λ p. p.first) c.in_ok-piece.ensures.lookup.1 in
    sym (none_at_point c.requires.0 c.args.pieces.now c.args.page c.partition_point-at.result c.in_ok-piece.piece.now o parted
    (λ l. omega (arith, c.if-piece-page.false)))
