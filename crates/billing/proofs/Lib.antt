mod Hosting
