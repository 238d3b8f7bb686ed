-- Working words: what loops and private functions say of a stream that is half taken. No public clause cites them.
pub mod Taking
pub mod RealSizes
